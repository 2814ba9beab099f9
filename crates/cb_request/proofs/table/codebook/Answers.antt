use Rattle.std.proofs.Common.{rules, arith}
use Rattle.cb_request.proofs.CommandWords.{other_number_for_codebook}
use Rattle.cb_request.proofs.table.codebook.Goals as goal
use Rattle.cb_request.proofs.table.codebook.Goals.{in_default-via-then-words-lt3, in_default-via-else-words-lt3+else-words-lt4}

pub returns-in_default : goal.returns-in_default
returns-in_default c = elim c.in_default.branch [
  | in_default-via-then-words-lt3 w ↦ other_number_for_codebook c.args.words.now (λ e. search (rules, e, arith))
  | in_default-via-else-words-lt3+else-words-lt4 w ↦ other_number_for_codebook c.args.words.now (λ e. search (rules, e, arith))
]

use Rattle.std.proofs.Common.{rules, arith}
use Rattle.cb_request.proofs.CommandWords.{more_or_fewer_than_four}
use Rattle.cb_request.proofs.table.rewind.Goals as goal
use Rattle.cb_request.proofs.table.rewind.Goals.{in_default-via-then-words-lt4, in_default-via-else-words-lt4+else-words-lt5}

pub returns-in_default : goal.returns-in_default
returns-in_default c = elim c.in_default.branch [
  | in_default-via-then-words-lt4 w ↦ more_or_fewer_than_four c.args.words.now (λ e. search (rules, e, arith))
  | in_default-via-else-words-lt4+else-words-lt5 w ↦ more_or_fewer_than_four c.args.words.now (λ e. search (rules, e, arith))
]

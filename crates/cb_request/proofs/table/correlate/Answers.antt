use Rattle.std.proofs.Common.{rules, arith}
use Rattle.cb_request.proofs.CommandWords.{more_or_fewer_than_five}
use Rattle.cb_request.proofs.table.correlate.Goals as goal
use Rattle.cb_request.proofs.table.correlate.Goals.{in_default-via-then-words-lt5, in_default-via-else-words-lt5+else-words-lt6}

pub returns-in_default : goal.returns-in_default
returns-in_default c = elim c.in_default.branch [
  | in_default-via-then-words-lt5 w ↦ more_or_fewer_than_five c.args.words.now (λ e. search (rules, e, arith))
  | in_default-via-else-words-lt5+else-words-lt6 w ↦ more_or_fewer_than_five c.args.words.now (λ e. search (rules, e, arith))
]

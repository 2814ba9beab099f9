use Rattle.cb_levels.proofs.Parting.{no_count}
use Rattle.cb_levels.proofs.words.count_after.Goals as goal

pub returns-in_err-count-clause-none : goal.returns-in_err-count-clause-none
returns-in_err-count-clause-none c =
    rw c.from_residual-in_err-count.ensures (no_count c.args.bytes.now c.args.word.now c.in_ok-rest.rest.now 1 65536 c.in_ok-rest.ensures.some c.in_err-count.ensures.none)

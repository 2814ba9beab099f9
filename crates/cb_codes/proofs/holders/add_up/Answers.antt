use Rattle.std.proofs.Common.{arith}
use Rattle.cb_codes.proofs.ByColumn.{add_next, end_sum}
use Rattle.cb_codes.proofs.holders.add_up.Goals as goal

pub loop-next-preserved : goal.loop-next-preserved
loop-next-preserved c = λ codes are.
    add_next codes c.loop-next.next c.loop-next.total c.in_ok-total.total c.loop-next.counts (c.loop-next.invariant codes are) (omega arith) (omega arith) (omega (arith, c.in_ok-total.ensures))

pub returns : goal.returns
returns c = λ codes are.
    end_sum codes c.loop-next.next c.loop-next.total c.loop-next.counts (c.loop-next.invariant codes are) (omega arith) (omega arith) (omega (arith, c.loop-next.auto.next-end))

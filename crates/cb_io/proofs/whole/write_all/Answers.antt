use Rattle.std.proofs.Common.{arith, length-drop}
use Rattle.std.proofs.lemmas.List.{take_rest}
use Rattle.cb_io.proofs.Reported.{Appends-next}
use Rattle.cb_io.proofs.whole.write_all.Goals as goal

pub loop-at-preserved : goal.loop-at-preserved
loop-at-preserved g c = (
  omega (arith, c.loop-at.invariant.0, c.in_ok-at.ensures.bound, length-drop c.loop-at.at c.args.bytes.now),
  Appends-next _ _ _ _ _ _ c.loop-at.invariant.1 (rw take_rest at c.in_ok-at.ensures.bytes),
  omega (arith, c.loop-at.invariant.2, c.in_ok-at.ensures.counts),
)

use Rattle.cb_session.proofs.Radii.{AreExtremesUpTo}
use Rattle.cb_session.proofs.extremes.least_and_greatest.Given as goal

abbrev pub invariant-loop-radius : goal.invariant-loop-radius
invariant-loop-radius l = AreExtremesUpTo l.radii l.radius-index l.least l.greatest

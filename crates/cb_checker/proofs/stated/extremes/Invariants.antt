use Rattle.cb_checker.proofs.Tolerated.{AreExtremesTo}
use Rattle.cb_checker.proofs.stated.extremes.Given as goal

abbrev pub invariant-loop-place : goal.invariant-loop-place
invariant-loop-place l = AreExtremesTo l.items l.place l.least l.greatest

use Rattle.cb_checker.specs.Firsts.{AreAll}
use Rattle.cb_checker.specs.Radii.{AreSameAt}
use Rattle.cb_checker.proofs.stated.first_difference.Given as goal

abbrev pub invariant-loop-place : goal.invariant-loop-place
invariant-loop-place l = AreAll (AreSameAt l.one l.other) l.place

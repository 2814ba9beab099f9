use Rattle.cb_distance.proofs.Others.{AreRadiiOf}
use Rattle.cb_distance.proofs.tolerance.radii.Given as goal

abbrev pub invariant-loop-place : goal.invariant-loop-place
invariant-loop-place l = AreRadiiOf l.codes.width l.codes.rows l.cap l.place l.radii

use Rattle.cb_pairs.proofs.Fitting.{IsNearestBefore}
use Rattle.cb_pairs.proofs.nearest.least_from.Given as goal

abbrev pub invariant-loop-place : goal.invariant-loop-place
invariant-loop-place l = IsNearestBefore l.codes l.word l.least l.place

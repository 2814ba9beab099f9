use Rattle.cb_pairs.specs.Kept.{IsLeastUpto}
use Rattle.cb_pairs.proofs.separation.closest_with.Given as goal

abbrev pub invariant-loop-second : goal.invariant-loop-second
invariant-loop-second l = IsLeastUpto l.width l.codes l.first l.second l.best

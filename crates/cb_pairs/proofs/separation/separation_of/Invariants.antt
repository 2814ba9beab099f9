use Rattle.std.proofs.Common.{◌+◌}
use Rattle.cb_pairs.specs.Kept.{IsLeastUpto}
use Rattle.cb_pairs.proofs.separation.separation_of.Given as goal

abbrev pub invariant-loop-first : goal.invariant-loop-first
invariant-loop-first l = IsLeastUpto l.width l.codes l.first (l.first + 1) l.best

use Rattle.std.proofs.Common.{◌-◌, length}
use Rattle.cb_distance.proofs.Setting.{IsOverBelow}
use Rattle.cb_distance.proofs.chosen.over.Given as goal

abbrev pub invariant-loop-column : goal.invariant-loop-column
invariant-loop-column l = IsOverBelow l.columns l.code l.row l.from

abbrev pub decreases-loop-column : goal.decreases-loop-column
decreases-loop-column l = length l.code - l.from

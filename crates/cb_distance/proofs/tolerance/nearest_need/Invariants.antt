use Rattle.std.proofs.Common.{◌≤◌, ◌-◌, length}
use Rattle.cb_distance.specs.Nearest.{IsCapOrNeed}
use Rattle.cb_distance.proofs.Others.{AreFarOrApart}
use Rattle.cb_distance.proofs.tolerance.nearest_need.Given as goal

abbrev pub invariant-loop-looked : goal.invariant-loop-looked
invariant-loop-looked l = record {
  within : l.from ≤ length l.code;
  reached : IsCapOrNeed l.codes l.cap l.place l.best;
  rest : AreFarOrApart l.codes l.place l.from l.looked l.best;
}

abbrev pub decreases-loop-looked : goal.decreases-loop-looked
decreases-loop-looked l = length l.code - l.from

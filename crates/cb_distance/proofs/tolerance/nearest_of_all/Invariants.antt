use Rattle.cb_distance.specs.Nearest.{IsCapOrNeed}
use Rattle.cb_distance.proofs.Others.{AreFarTo}
use Rattle.cb_distance.proofs.tolerance.nearest_of_all.Given as goal

abbrev pub invariant-loop-other : goal.invariant-loop-other
invariant-loop-other l = record {
  reached : IsCapOrNeed l.codes l.cap l.place l.best;
  far : AreFarTo l.codes l.place l.best l.other;
}

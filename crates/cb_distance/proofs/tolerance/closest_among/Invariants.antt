use Rattle.std.proofs.Common.{◌≢◌, ◌<◌, ◌≤◌, ℕ, get_or}
use Rattle.cb_distance.specs.Close.{far}
use Rattle.cb_distance.specs.Nearest.{StaysCapOrNeed}
use Rattle.cb_distance.proofs.tolerance.closest_among.Given as goal

abbrev pub invariant-loop-other : goal.invariant-loop-other
invariant-loop-other l = record {
  low : l.best ≤ l.fn.best;
  looks : (k d : ℕ) → k < l.other-index → get_or l.places k d ≢ l.place → l.best ≤ far l.codes l.place (get_or l.places k d);
  reached : StaysCapOrNeed l.codes l.place l.fn.best l.best;
}

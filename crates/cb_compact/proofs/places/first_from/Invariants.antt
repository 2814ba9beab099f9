use Rattle.std.proofs.Common.{ℕ, ◌-◌, ◌<◌, ◌≤◌, length, slice_index_or}
use Rattle.cb_compact.specs.Compact.{AreRising}
use Rattle.cb_compact.proofs.places.first_from.Given as goal

abbrev pub invariant-loop-low : goal.invariant-loop-low
invariant-loop-low l = record {
  order : l.low ≤ l.high;
  within : l.high ≤ length l.places;
  before : AreRising l.places → (k : ℕ) → k < l.low → slice_index_or l.places k 0 < l.from;
  after : AreRising l.places → (k : ℕ) → l.high ≤ k → k < length l.places → l.from ≤ slice_index_or l.places k 0;
}

abbrev pub decreases-loop-low : goal.decreases-loop-low
decreases-loop-low l = l.high - l.low

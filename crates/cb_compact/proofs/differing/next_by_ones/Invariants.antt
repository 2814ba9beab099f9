use Rattle.std.proofs.Common.{◌≡◌, ℕ, ◌≤◌, ◌<◌, ◌-◌, false, length}
use Rattle.cb_compact.specs.Compact.{differs}
use Rattle.cb_compact.specs.Cursors.{IsCursorAt}
use Rattle.cb_compact.proofs.differing.next_by_ones.Given as goal

abbrev pub invariant-loop-place : goal.invariant-loop-place
invariant-loop-place l = record {
  on : l.fn.from ≤ l.from;
  none : (k : ℕ) → l.fn.from ≤ k → k < l.from → differs l.left l.right k ≡ false;
  one : IsCursorAt l.left l.from l.one.before l.one.next;
  other : IsCursorAt l.right l.from l.other.before l.other.next;
}

abbrev pub decreases-loop-place : goal.decreases-loop-place
decreases-loop-place l = length l.left - l.from

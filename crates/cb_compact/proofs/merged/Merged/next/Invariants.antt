use Rattle.std.proofs.Common.{◌≡◌, ℕ, ◌≤◌, ◌<◌, ◌-◌, false, length}
use Rattle.cb_compact.specs.Compact.{differs}
use Rattle.cb_compact.specs.Course.{IsMergedAt}
use Rattle.cb_compact.proofs.merged.Merged.next.Given as goal

abbrev pub invariant-loop-self : goal.invariant-loop-self
invariant-loop-self l = record {
  on : l.fn.from ≤ l.from;
  none : (k : ℕ) → l.fn.from ≤ k → k < l.from → differs l.left l.right k ≡ false;
  lists : IsMergedAt l.left l.right l.from l.self;
}

abbrev pub decreases-loop-self : goal.decreases-loop-self
decreases-loop-self l = length l.left - l.from

use Rattle.std.proofs.Common.{◌≡◌, ◌<◌, ◌≤◌, ◌-◌}
use Rattle.cb_compact.specs.Compact.{differing_before}
use Rattle.cb_compact.specs.Course.{IsOnCourse}
use Rattle.cb_compact.proofs.counted.nth_place.Given as goal

abbrev pub invariant-loop-place : goal.invariant-loop-place
invariant-loop-place l = record {
  left : l.places.left.now ≡ l.left;
  right : l.places.right.now ≡ l.right;
  course : IsOnCourse l.places.left.now l.places.right.now l.places.from l.places.course;
  is : l.found ≡ differing_before l.places.from l.left l.right;
  fewer : l.found < l.n;
  before : l.places.from ≤ l.before;
}

abbrev pub decreases-loop-place : goal.decreases-loop-place
decreases-loop-place l = l.before - l.places.from

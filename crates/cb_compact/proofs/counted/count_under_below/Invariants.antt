use Rattle.std.proofs.Common.{◌≡◌, ◌≤◌, ◌<◌, ◌-◌, length}
use Rattle.cb_compact.proofs.Counting.{under_before}
use Rattle.cb_compact.specs.Course.{IsOnCourse}
use Rattle.cb_compact.proofs.counted.count_under_below.Given as goal

abbrev pub invariant-loop-place : goal.invariant-loop-place
invariant-loop-place l = record {
  left : l.places.left.now ≡ l.left;
  right : l.places.right.now ≡ l.right;
  course : IsOnCourse l.places.left.now l.places.right.now l.places.from l.places.course;
  is : l.count ≡ under_before l.mask l.left l.right l.places.from;
  few : l.count < l.limit;
  within : l.places.from ≤ length l.left;
}

abbrev pub decreases-loop-place : goal.decreases-loop-place
decreases-loop-place l = length l.left - l.places.from

use Rattle.std.proofs.Common.{◌≡◌, ◌≤◌, ◌<◌, ◌-◌, length}
use Rattle.cb_compact.specs.Compact.{differing_before}
use Rattle.cb_compact.specs.Course.{IsOnCourse}
use Rattle.cb_compact.proofs.counted.count_below.Given as goal

abbrev pub invariant-loop-count : goal.invariant-loop-count
invariant-loop-count l = record {
  left : l.places.left.now ≡ l.left;
  right : l.places.right.now ≡ l.right;
  course : IsOnCourse l.places.left.now l.places.right.now l.places.from l.places.course;
  is : l.count ≡ differing_before l.places.from l.left l.right;
  few : l.count < l.limit;
  within : l.places.from ≤ length l.left;
}

abbrev pub decreases-loop-count : goal.decreases-loop-count
decreases-loop-count l = length l.left - l.places.from

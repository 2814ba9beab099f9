-- Two rows that are gone through together.
use Rattle.std.specs.Prelude.{◌≡◌, ℕ, List, Bool}
use Rattle.cb_compact.specs.declared.differing.Course.{Course}
use Rattle.cb_compact.specs.declared.differing.Course.TheVariants.{Words, Lists, Ones}
use Rattle.cb_compact.specs.declared.merged.Merged.{Merged}
use Rattle.cb_compact.specs.Compact.{ones_of, AreBefore}
use Rattle.cb_compact.specs.Cursors.{IsCursorAt}

-- two lists have the positions of the ones of two rows, and were gone through up to a position
pub record IsMergedAt (v w : List Bool) (from : ℕ) (lists : Merged) : Type 0 where
  pub left : lists.left.now ≡ ones_of v
  pub right : lists.right.now ≡ ones_of w
  pub left_passed : AreBefore (ones_of v) from lists.left_passed
  pub right_passed : AreBefore (ones_of w) from lists.right_passed

-- what is known of two rows on their course fits them, from a position on
abbrev pub IsOnCourse : List Bool → List Bool → ℕ → Course → Type 0
IsOnCourse left right from (Words one other) = (one.now ≡ left) × (other.now ≡ right)
IsOnCourse left right from (Lists lists) = IsMergedAt left right from lists
IsOnCourse left right from (Ones one other) = IsCursorAt left from one.before one.next × IsCursorAt right from other.before other.next

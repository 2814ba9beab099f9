-- Radii that a certificate states, beside those of the groups.
use Rattle.std.specs.Prelude.{◌≡◌, ⊤, ℕ, ◌+◌, ◌<◌, ◌≤◌, ◌⊎◌, List, length, Result, Ok, Err, Some, slice_get}
use Rattle.cb_coding.specs.declared.group.Group.{Group}
use Rattle.cb_coding.specs.Groups.{codes_of}
use Rattle.cb_coding.specs.Radii.{AreRadii}
use Rattle.cb_validity.specs.declared.verdict.Accepted.{Accepted}
use Rattle.cb_validity.specs.declared.verdict.Accepted.TheVariants as accepted
use Rattle.cb_validity.specs.declared.verdict.Rejected.{Rejected}
use Rattle.cb_validity.specs.declared.verdict.Rejected.TheVariants.{BadRadius, NoMemory}

-- both lists have one item at the position
abbrev pub AreSameAt : List ℕ → List ℕ → ℕ → Type 0
AreSameAt xs ys place = (x : ℕ) × (slice_get xs place ≡ Some x) × (slice_get ys place ≡ Some x)

-- the first position with an item where they don't
pub record IsFirstDifference (xs ys : List ℕ) (place : ℕ) : Type 0 where
  pub some : (place < length xs) ⊎ (place < length ys)
  pub before : (k : ℕ) → k < place → AreSameAt xs ys k
  pub differs : ¬ AreSameAt xs ys place

-- the least item and the greatest
pub record AreExtremes (xs : List ℕ) (least greatest : ℕ) : Type 0 where
  pub least_is : (i : ℕ) × (slice_get xs i ≡ Some least)
  pub greatest_is : (i : ℕ) × (slice_get xs i ≡ Some greatest)
  pub between : (i x : ℕ) → slice_get xs i ≡ Some x → (least ≤ x) × (x ≤ greatest)

-- the radii of the groups are stated, and this is shown
pub record ShowRadii (width : ℕ) (groups : List Group) (cap : ℕ) (stated : List ℕ) (columns : ℕ) (shown : Accepted) : Type 0 where
  pub are : AreRadii width (codes_of groups) cap stated
  pub least : ℕ
  pub greatest : ℕ
  pub extremes : AreExtremes stated least greatest
  pub is : shown ≡ accepted.Capped cap least greatest (length groups) columns

-- at a position the radius of a group isn't stated, and this is reported
pub record LackRadius (width : ℕ) (groups : List Group) (cap : ℕ) (stated : List ℕ) (why : Rejected) : Type 0 where
  pub own : List ℕ
  pub own_are : AreRadii width (codes_of groups) cap own
  pub place : ℕ
  pub first : IsFirstDifference own stated place
  pub is : why ≡ BadRadius (place + 1)

abbrev pub JudgesRadii : ℕ → List Group → ℕ → List ℕ → ℕ → Result Accepted Rejected → Type 0
JudgesRadii width groups cap stated columns (Ok shown) = ShowRadii width groups cap stated columns shown
JudgesRadii width groups cap stated columns (Err NoMemory) = ⊤
JudgesRadii width groups cap stated columns (Err why) = LackRadius width groups cap stated why

-- The least and the greatest of radii.
use Rattle.std.specs.Prelude.{◌≡◌, ℕ, ◌<◌, ◌≤◌, List, length}
use Rattle.cb_coding.specs.Radii.{radius_at}

-- both are among the radii, and each radius is between them
pub record AreExtremeRadii (radii : List ℕ) (least greatest : ℕ) : Type 0 where
  pub least_is : (i : ℕ) × (i < length radii) × (radius_at radii i ≡ least)
  pub greatest_is : (i : ℕ) × (i < length radii) × (radius_at radii i ≡ greatest)
  pub between : (i : ℕ) → i < length radii → (least ≤ radius_at radii i) × (radius_at radii i ≤ greatest)

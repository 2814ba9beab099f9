-- How many lost or spurious symptoms each code tolerates, where each two are as far apart as over all columns, or as a cap where
-- that is less.
use Rattle.std.specs.Prelude.{◌≡◌, ◌≢◌, ℕ, ◌<◌, ◌≤◌, ◌⊎◌, List, length, Bool, slice_index_or}
use Rattle.cb_coding.specs.Answers.{radius}
use Rattle.cb_coding.specs.Needs.{capped_need}

-- another position of codes
abbrev pub IsOther : List (List Bool) → ℕ → ℕ → Type 0
IsOther codes i j = (j < length codes) × (j ≢ i)

-- the least need of a code and another one, or the cap where it is the only one
pub record IsNearestNeed (width : ℕ) (codes : List (List Bool)) (cap i d : ℕ) : Type 0 where
  pub least : (j : ℕ) → IsOther codes i j → d ≤ capped_need width codes cap i j
  pub attained : ((length codes < 2) × (d ≡ cap)) ⊎ ((j : ℕ) × IsOther codes i j × (d ≡ capped_need width codes cap i j))

-- what a list of radii says of a code
abbrev pub radius_at : List ℕ → ℕ → ℕ
radius_at radii i = slice_index_or radii i 0

-- for each code, in order, the radius of its nearest need
pub record AreRadii (width : ℕ) (codes : List (List Bool)) (cap : ℕ) (radii : List ℕ) : Type 0 where
  pub all : length radii ≡ length codes
  pub each : (i : ℕ) → i < length codes → (d : ℕ) × IsNearestNeed width codes cap i d × (radius_at radii i ≡ radius d)

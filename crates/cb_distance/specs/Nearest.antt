-- The nearest of the other codes, looked for one after the other.
use Rattle.std.specs.Prelude.{◌≡◌, ◌≢◌, ◌⊎◌, ℕ, ◌≤◌, min}
use Rattle.cb_coding.specs.Needs.{capped_need}
use Rattle.cb_coding.specs.Radii.{IsOther}
use Rattle.cb_codes.specs.Codes.{Coded}
use Rattle.cb_distance.specs.Close.{far}

-- what was found so far, or how far the two codes are apart where that is less; a code isn't compared with itself
abbrev pub IsCloserOf : Coded → ℕ → ℕ → ℕ → ℕ → Type 0
IsCloserOf codes i j best closer = ((j ≡ i) × (closer ≡ best)) ⊎ ((j ≢ i) × (closer ≡ min best (far codes i j)))

-- the cap, or the need of the code and another one
pub record IsCapOrNeed (codes : Coded) (cap i best : ℕ) : Type 0 where
  pub low : best ≤ cap
  pub attained : (best ≡ cap) ⊎ ((j : ℕ) × IsOther codes.rows i j × (best ≡ capped_need codes.width codes.rows cap i j))

-- what was reached is reached again
abbrev pub StaysCapOrNeed : Coded → ℕ → ℕ → ℕ → Type 0
StaysCapOrNeed codes i old new = (cap : ℕ) → IsCapOrNeed codes cap i old → IsCapOrNeed codes cap i new

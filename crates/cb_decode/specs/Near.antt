-- The codes nearest to a word, whatever is sure.
use Rattle.std.specs.Prelude.{◌≡◌, ◌↔◌, ℕ, ◌<◌, ◌≤◌, List, length, Bool}
use Rattle.std.specs.List.{Contains}
use Rattle.std.specs.List.Sorted.{IsStrictlyIncreasing}
use Rattle.cb_coding.specs.Answers.{from_word}
use Rattle.cb_coding.specs.Radii.{radius_at}
use Rattle.cb_decode.specs.declared.near.Nearest.{Nearest}

-- how far they are, and exactly which they are in order
pub record AreNearest (columns : List ℕ) (codes : List (List Bool)) (word : List Bool) (found : Nearest) : Type 0 where
  pub attained : (i : ℕ) × (i < length codes) × (from_word columns codes word i ≡ found.distance)
  pub least : (i : ℕ) → i < length codes → found.distance ≤ from_word columns codes word i
  pub rise : IsStrictlyIncreasing found.places
  pub nearest : (i : ℕ) → Contains found.places i ↔ ((i < length codes) × (from_word columns codes word i ≡ found.distance))

-- the radius of some of these codes is at least the distance
abbrev pub SomeReaches : List ℕ → List ℕ → ℕ → Type 0
SomeReaches radii places distance = (i : ℕ) × Contains places i × (distance ≤ radius_at radii i)

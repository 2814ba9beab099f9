-- Codes over some columns alone.
use Rattle.std.specs.Prelude.{◌≡◌, ◌↔◌, ◌⊎◌, ℕ, ◌<◌, List, [], length, Bool, true, slice_index_or}
use Rattle.std.specs.List.{AllZip, Contains}
use Rattle.cb_coding.specs.Distance.{bit}
use Rattle.cb_codes.specs.Codes.{Coded}

-- the code over these columns alone, one position a column
pub record IsOver (columns : List ℕ) (code row : List Bool) : Type 0 where
  pub width : length row ≡ length columns
  pub each : (k : ℕ) → k < length columns → bit row k ≡ bit code (slice_index_or columns k 0)

-- these are the codes over the columns, one by one
abbrev pub AreOver : List ℕ → List (List Bool) → List (List Bool) → Type 0
AreOver columns codes rows = AllZip (IsOver columns) codes rows

-- they are kept, as wide as there are columns
pub record AreChosen (columns : List ℕ) (codes : List (List Bool)) (chosen : Coded) : Type 0 where
  pub width : chosen.width ≡ length columns
  pub over : AreOver columns codes chosen.rows

-- the list of a column has exactly the positions, below one, at which it stands among these
abbrev pub ArePlacesBelow : List ℕ → ℕ → List (List ℕ) → Type 0
ArePlacesBelow columns below lists = (column place : ℕ) → column < length lists
    → Contains (slice_index_or lists column []) place ↔ ((place < below) × (slice_index_or columns place 0 ≡ column))

-- a list for each of `width` columns: at which positions of `columns` it stands
pub record IsChosenIndex (columns : List ℕ) (width : ℕ) (lists : List (List ℕ)) : Type 0 where
  pub all : length lists ≡ width
  pub each : ArePlacesBelow columns (length columns) lists

-- true is what was true, and what stands at these positions
pub record Sets (places : List ℕ) (old new : List Bool) : Type 0 where
  pub width : length new ≡ length old
  pub each : (k : ℕ) → (bit new k ≡ true) ↔ ((bit old k ≡ true) ⊎ Contains places k)

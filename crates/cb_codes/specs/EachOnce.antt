-- Codes, each once.
use Rattle.std.specs.Prelude.{◌≡◌, ◌⊎◌, ℕ, List, [], ◌∷◌, ◌++◌, length, Bool, nat_eq, Option, None, Some, slice_get}
use Rattle.std.specs.HashMap.{HashMap, ContainsKey}
use Rattle.cb_codes.specs.Marks.{IsMark}

-- the mark of each code is there
abbrev pub HaveMarks : {S : Type 0} → List (List Bool) → HashMap ℕ ℕ S → Type 0
HaveMarks codes firsts = (i mark : ℕ) (code : List Bool) → slice_get codes i ≡ Some code → IsMark code mark → ContainsKey nat_eq firsts mark

-- a position of a code, if it is among the codes
abbrev pub IsPlaceIn : List (List Bool) → List Bool → Option ℕ → Type 0
IsPlaceIn codes code None = (i : ℕ) → ¬ (slice_get codes i ≡ Some code)
IsPlaceIn codes code (Some place) = slice_get codes place ≡ Some code

-- the code is at that position already
pub record IsCodeThere (code : List Bool) (old new : List (List Bool)) (place : ℕ) : Type 0 where
  pub at : slice_get old place ≡ Some code
  pub same : new ≡ old

-- it is at none, and goes last
pub record GoesLast (code : List Bool) (old new : List (List Bool)) (place : ℕ) : Type 0 where
  pub none : (i : ℕ) → ¬ (slice_get old i ≡ Some code)
  pub last : place ≡ length old
  pub new_is : new ≡ old ++ code ∷ []

-- the position of a code, which is put there if it is at none
abbrev pub FindsPlace : List Bool → List (List Bool) → List (List Bool) → ℕ → Type 0
FindsPlace code old new place = IsCodeThere code old new place ⊎ GoesLast code old new place

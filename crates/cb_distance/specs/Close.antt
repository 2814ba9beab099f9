-- Pairs of codes that are close.
use Rattle.std.specs.Prelude.{◌≡◌, ◌⊎◌, ℕ, ◌<◌, ◌≤◌, ◌^◌, List, length, Bool, Option, None, Some}
use Rattle.cb_coding.specs.declared.book.Pair.{Pair}
use Rattle.cb_coding.specs.Distance.{apart, all_columns}
use Rattle.cb_coding.specs.Pairs.{IsPair, GoodFor, IsFirstShort}
use Rattle.cb_codes.specs.Codes.{Coded}

-- codes and columns are numbered by 32 bits
pub record AreNumbered (codes : Coded) : Type 0 where
  pub places_fit : length codes.rows < 2 ^ 32
  pub columns_fit : codes.width < 2 ^ 32

-- how far the codes at two positions are apart over all their columns
abbrev pub far : Coded → ℕ → ℕ → ℕ
far codes i j = apart (all_columns codes.width) codes.rows i j

-- every pair with an earlier first position is as far apart as it needs
abbrev pub FarBefore : Coded → (ℕ → ℕ → ℕ) → ℕ → Type 0
FarBefore codes need from = (i j : ℕ) → IsPair codes.rows i j → i < from → need i j ≤ far codes i j

-- the code at the second position stands after the first, and is closer to it than is asked
pub record IsLaterClose (codes : Coded) (first : ℕ) (need : ℕ → ℕ → ℕ) (second : ℕ) : Type 0 where
  pub after : first < second
  pub within : second < length codes.rows
  pub close : far codes first second < need first second

-- the codes after the first, before the end, are as far from it as is asked
abbrev pub AreAllFar : Coded → ℕ → (ℕ → ℕ → ℕ) → ℕ → Type 0
AreAllFar codes first need end = (j : ℕ) → first < j → j < end → need first j ≤ far codes first j

-- a close code, or the end of all
abbrev pub IsCloseOrEnd : Coded → ℕ → (ℕ → ℕ → ℕ) → ℕ → Type 0
IsCloseOrEnd codes first need place = IsLaterClose codes first need place ⊎ (place ≡ length codes.rows)

-- the first close code, or the end of all
pub record IsFirstAfter (codes : Coded) (first : ℕ) (need : ℕ → ℕ → ℕ) (place : ℕ) : Type 0 where
  pub is : IsCloseOrEnd codes first need place
  pub before : AreAllFar codes first need place

-- the second of the pair is the first code after this one that is closer to it than is asked
pub record IsFirstCloseFrom (codes : Coded) (first : ℕ) (need : ℕ → ℕ → ℕ) (pair : Pair) : Type 0 where
  pub first_is : pair.first ≡ first
  pub close : IsLaterClose codes first need pair.second
  pub distance_is : pair.distance ≡ far codes first pair.second
  pub before : AreAllFar codes first need pair.second

-- the first pair of codes that are closer over the columns than they need, if there is one
abbrev pub IsFirstShortIfAny : List ℕ → List (List Bool) → (ℕ → ℕ → ℕ) → Option Pair → Type 0
IsFirstShortIfAny columns codes need None = GoodFor codes columns need
IsFirstShortIfAny columns codes need (Some pair) = IsFirstShort columns codes need pair

-- What is kept of guesses, and how their separation and the nearest of them are looked for.
use Rattle.std.specs.Prelude.{◌≡◌, ◌≢◌, ◌⊎◌, ℕ, ◌+◌, ◌<◌, ◌≤◌, ◌^◌, List, length, map, Bool}
use Rattle.cb_coding.specs.Distance.{distance, all_columns, code_at, apart, HaveWidth}
use Rattle.cb_coding.specs.Pairs.{IsPair}
use Rattle.cb_codes.specs.Codes.{Coded}
use Rattle.cb_pairs.specs.declared.guess.Guess.{Guess}
use Rattle.cb_pairs.specs.declared.landmarks.Landmarks.{Landmarks}
use Rattle.cb_pairs.specs.Guesses.{guesses_of, guess_code}
use Rattle.cb_pairs.specs.Landmarks.{AreDistances, HaveLandmarks}
use Rattle.cb_pairs.specs.Separation.{IsSeparation}

-- all codes have one width
abbrev pub HaveOneWidth : List (List Bool) → Type 0
HaveOneWidth codes = (width : ℕ) × HaveWidth width codes

-- the guesses of these groups with their codes, and how far these are apart
pub record AreGuessCodes (groups : Coded) (guesses : List Guess) (codes : List (List Bool)) (separation : ℕ) : Type 0 where
  pub some : 0 < length groups.rows
  pub narrow : groups.width < 2 ^ 32
  pub guesses_are : guesses ≡ guesses_of (length groups.rows)
  pub codes_are : codes ≡ map (guess_code groups.rows) guesses
  pub apart : IsSeparation groups.width groups.rows separation

-- ---- the separation

-- two codes that differ, at a position and a later one
pub record IsDifferingPair (codes : List (List Bool)) (i j : ℕ) : Type 0 where
  pub is_pair : IsPair codes i j
  pub differ : code_at codes i ≢ code_at codes j

-- some two codes that differ are so far apart
pub record AreSomeApart (width : ℕ) (codes : List (List Bool)) (d : ℕ) : Type 0 where
  pub first : ℕ
  pub second : ℕ
  pub differ : IsDifferingPair codes first second
  pub is : d ≡ apart (all_columns width) codes first second

-- no two codes differ, and it is 1
pub record AreAllOne (codes : List (List Bool)) (d : ℕ) : Type 0 where
  pub none : (i j : ℕ) → ¬ IsDifferingPair codes i j
  pub is : d ≡ 1

-- the least distance of two codes that differ, or 1 where none do
pub record IsLeastApart (width : ℕ) (codes : List (List Bool)) (d : ℕ) : Type 0 where
  pub least : (i j : ℕ) → IsDifferingPair codes i j → d ≤ apart (all_columns width) codes i j
  pub attained : AreSomeApart width codes d ⊎ AreAllOne codes d

-- the first position is below one, or it is that, and the second is below another
abbrev pub ComesUpto : ℕ → ℕ → ℕ → ℕ → Type 0
ComesUpto first to i j = (i < first) ⊎ ((i ≡ first) × (j < to))

-- the least distance up to a pair; it is more than all columns as long as no two codes differ
pub record IsLeastUpto (width : ℕ) (codes : List (List Bool)) (first to d : ℕ) : Type 0 where
  pub least : (i j : ℕ) → ComesUpto first to i j → IsDifferingPair codes i j → d ≤ apart (all_columns width) codes i j
  pub attained : AreSomeApart width codes d ⊎ (d ≡ width + 1)

-- what was found so far, or a distance that is less, but not 0
abbrev pub IsCloser : ℕ → ℕ → ℕ → Type 0
IsCloser distance best closer = ((0 < distance) × (distance < best) × (closer ≡ distance)) ⊎ (((distance ≡ 0) ⊎ (best ≤ distance)) × (closer ≡ best))

-- the distances of the code at a position from the groups, and the landmarks of all codes
pub record AreKnown (width : ℕ) (codes : List (List Bool)) (place : ℕ) (distances : List ℕ) (marks : List Landmarks) : Type 0 where
  pub rows : List (List Bool)
  pub distances_are : AreDistances width rows (code_at codes place) distances
  pub marks_are : HaveLandmarks width rows codes marks

-- ---- the nearest

-- no code is nearer to the word, and one is so near
pub record IsNearestDistance (codes : List (List Bool)) (word : List Bool) (near : ℕ) : Type 0 where
  pub attained : (i : ℕ) × (i < length codes) × (distance (all_columns (length word)) word (code_at codes i) ≡ near)
  pub least : (i : ℕ) → i < length codes → near ≤ distance (all_columns (length word)) word (code_at codes i)

-- Truth values packed into words of 64 bits.
use Rattle.std.specs.Prelude.{◌≡◌, ℕ, ◌+◌, ◌*◌, ◌/◌, ◌%◌, ◌<◌, ◌≤◌, ◌^◌, ◌&&◌, Bool, true, false, not, List, length, map, min, slice_index_or}
use Rattle.std.specs.List.{All, count_by, range_with_len}
use Rattle.std.specs.Simd.Lanes.{zip2}
use mathlib.Core.Bool.{beq}
use Rattle.cb_lanes.specs.Words.{bit_of}

-- the first n values: value k is bit k of the words
abbrev pub values : List ℕ → ℕ → List Bool
values words n = map (bit_of words) (range_with_len 0 n)

-- how many words n values need
abbrev pub words_for : ℕ → ℕ
words_for n = n / 64 + min 1 (n % 64)

-- the words hold n values: as many words as they need, with no bit set past the last value
pub record Holds (words : List ℕ) (n : ℕ) : Type 0 where
  pub fits : n < 2 ^ 64
  pub enough : n ≤ 64 * length words
  pub no_more : 64 * length words < n + 64
  pub rest : (k : ℕ) → n ≤ k → bit_of words k ≡ false

-- the words are those of these values
pub record Packs (row : List Bool) (words : List ℕ) : Type 0 where
  pub holds : Holds words (length row)
  pub small : All (λ word. word < 2 ^ 64) words
  pub bits : (k : ℕ) → k < length row → bit_of words k ≡ slice_index_or row k false

-- at how many positions two rows differ
abbrev pub differing : List Bool → List Bool → ℕ
differing row other = count_by (λ k. not (beq (slice_index_or row k false) (slice_index_or other k false))) (range_with_len 0 (length row))

-- what is true in the row and false in the other
abbrev pub difference : List Bool → List Bool → List Bool
difference row other = zip2 (λ one other. one && not other) row other

-- of the positions from one on, this is the first that is true
pub record IsNextOne (row : List Bool) (from k : ℕ) : Type 0 where
  pub on : from ≤ k
  pub is : slice_index_or row k false ≡ true
  pub first : (j : ℕ) → from ≤ j → j < k → slice_index_or row j false ≡ false

-- no position from this one on is true
abbrev pub HasNoneFrom : List Bool → ℕ → Type 0
HasNoneFrom row from = (k : ℕ) → from ≤ k → slice_index_or row k false ≡ false

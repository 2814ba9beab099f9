-- Rows of truth values by the positions of their ones, and where two rows differ.
use Rattle.std.specs.Prelude.{◌≡◌, ◌==◌, ℕ, ◌<◌, ◌≤◌, Bool, true, false, not, List, length, map, slice_index_or}
use Rattle.std.specs.List.{AllPairs, count_by, filter, list_any, range_with_len}
use mathlib.Core.Bool.{beq}
use Rattle.cb_compact.specs.declared.compact.Kept.{Kept}
use Rattle.cb_compact.specs.declared.compact.Kept.TheVariants.{Places, Whole}

-- the positions of the ones of a row, in order
abbrev pub ones_of : List Bool → List ℕ
ones_of row = filter (λ k. slice_index_or row k false) (range_with_len 0 (length row))

-- n values, of which those at these positions are true
abbrev pub with_ones : List ℕ → ℕ → List Bool
with_ones places n = map (λ k. list_any (λ place. k == place) places) (range_with_len 0 n)

-- the n values of which this is kept
abbrev pub values_of : Kept → ℕ → List Bool
values_of (Places places) n = with_ones places.items n
values_of (Whole row) n = row

-- this is kept of a row: the positions of its ones, or all of it
abbrev pub KeepsRow : List Bool → Kept → Type 0
KeepsRow row (Places places) = places.items ≡ ones_of row
KeepsRow row (Whole whole) = whole ≡ row

-- the stored form of n values, of which `weight` are true
pub record IsCompactOf (kept : Kept) (n weight : ℕ) : Type 0 where
  pub long : length (values_of kept n) ≡ n
  pub keeps : KeepsRow (values_of kept n) kept
  pub counted : weight ≡ count_by (λ value. value) (values_of kept n)

-- each position is below all later ones
abbrev pub AreRising : List ℕ → Type 0
AreRising places = AllPairs (λ place later. place < later) places

-- the first `at` of these positions are before `from`, and the others aren't
pub record AreBefore (places : List ℕ) (from at : ℕ) : Type 0 where
  pub within : at ≤ length places
  pub before : (k : ℕ) → k < at → slice_index_or places k 0 < from
  pub after : (k : ℕ) → at ≤ k → k < length places → from ≤ slice_index_or places k 0

-- whether two rows differ at a position
abbrev pub differs : List Bool → List Bool → ℕ → Bool
differs row other k = not (beq (slice_index_or row k false) (slice_index_or other k false))

-- at how many of the first n positions two rows differ
abbrev pub differing_before : ℕ → List Bool → List Bool → ℕ
differing_before n row other = count_by (differs row other) (range_with_len 0 n)

-- at how many ones of a mask two rows differ
abbrev pub differing_under : List Bool → List Bool → List Bool → ℕ
differing_under mask row other = count_by (differs row other) (ones_of mask)

-- of the positions from one on, this is the first at which the two differ
pub record IsNextDiffering (row other : List Bool) (from k : ℕ) : Type 0 where
  pub on : from ≤ k
  pub is : differs row other k ≡ true
  pub first : (j : ℕ) → from ≤ j → j < k → differs row other j ≡ false

-- from a position on the two differ nowhere
abbrev pub DifferNowhereFrom : List Bool → List Bool → ℕ → Type 0
DifferNowhereFrom row other from = (k : ℕ) → from ≤ k → differs row other k ≡ false

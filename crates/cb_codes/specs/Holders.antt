-- Which codes have which columns.
use Rattle.std.specs.Prelude.{◌≡◌, ◌⊎◌, ℕ, ◌+◌, ◌<◌, ◌≤◌, List, [], length, Bool, slice_index_or}
use Rattle.std.specs.List.{All, filter, range_with_len, sum_by}
use Rattle.cb_coding.specs.Distance.{bit, code_at, all_columns}
use Rattle.cb_codes.specs.declared.holders.Holders.{Holders}

-- the positions of those of the first n codes that have a column, in order
abbrev pub first_holders : List (List Bool) → ℕ → ℕ → List ℕ
first_holders codes n column = filter (λ i. bit (code_at codes i) column) (range_with_len 0 n)

-- the positions of the codes that have a column, in order
abbrev pub holders_of : List (List Bool) → ℕ → List ℕ
holders_of codes column = filter (λ i. bit (code_at codes i) column) (range_with_len 0 (length codes))

-- where the list of a column starts, after those of all lower columns
abbrev pub holders_start : List (List Bool) → ℕ → ℕ
holders_start codes column = sum_by (λ k. length (holders_of codes k)) (all_columns column)

-- the list of a column has its first positions there, those of the first n codes
abbrev pub IsHolderList : List (List Bool) → ℕ → ℕ → List ℕ → Type 0
IsHolderList codes n column places = (k : ℕ) → k < length (first_holders codes n column)
    → slice_index_or places (holders_start codes column + k) 0 ≡ slice_index_or (first_holders codes n column) k 0

-- where each list starts, the end of the last one, and the lists
pub record AreHolders (width : ℕ) (codes : List (List Bool)) (holders : Holders) : Type 0 where
  pub all : length holders.starts.items ≡ width + 1
  pub starts : (column : ℕ) → column ≤ width → slice_index_or holders.starts.items column 0 ≡ holders_start codes column
  pub end : holders_start codes width ≤ length holders.places.items
  pub each : (column : ℕ) → column < width → IsHolderList codes (length codes) column holders.places.items

-- there are such lists, or none at all
abbrev pub AreHoldersOrNone : ℕ → List (List Bool) → Holders → Type 0
AreHoldersOrNone width codes holders = (holders.starts.items ≡ []) ⊎ AreHolders width codes holders

-- there is an entry for each column of the codes, and one more
abbrev pub HaveEntries : List ℕ → List (List Bool) → Type 0
HaveEntries entries codes = All (λ code. length code + 1 ≡ length entries) codes

-- after the first entry, which is 0, stands how many of the first n codes have each column
pub record AreCounted (codes : List (List Bool)) (n : ℕ) (counts : List ℕ) : Type 0 where
  pub first : slice_index_or counts 0 0 ≡ 0
  pub each : (column : ℕ) → column + 1 < length counts → slice_index_or counts (column + 1) 0 ≡ length (first_holders codes n column)

-- after the first entry, which is 0, stands where the list of each column starts, and this is the end of the last one
pub record AreStarts (codes : List (List Bool)) (total : ℕ) (starts : List ℕ) : Type 0 where
  pub first : slice_index_or starts 0 0 ≡ 0
  pub each : (column : ℕ) → column + 1 < length starts → slice_index_or starts (column + 1) 0 ≡ holders_start codes column
  pub end : (column : ℕ) → column + 1 ≡ length starts → total ≡ holders_start codes column

-- the first n codes are in the lists, and after the first entry, which is 0, stands where the next one goes in the list of each column
pub record AreHolderLists (codes : List (List Bool)) (n : ℕ) (nexts places : List ℕ) : Type 0 where
  pub first : slice_index_or nexts 0 0 ≡ 0
  pub end : (column : ℕ) → column + 1 ≡ length nexts → holders_start codes column ≤ length places
  pub next : (column : ℕ) → column + 1 < length nexts
      → slice_index_or nexts (column + 1) 0 ≡ holders_start codes column + length (first_holders codes n column)
  pub each : (column : ℕ) → column + 1 < length nexts → IsHolderList codes n column places

-- Parts of two rows of words.
use Rattle.std.specs.Prelude.{◌≡◌, ℕ, ◌<◌, ◌≤◌, List, bit_and, slice_index_or}

-- from one position up to another, all words are the same
abbrev pub SameWords : List ℕ → List ℕ → ℕ → ℕ → Type 0
SameWords a b from end = (k : ℕ) → from ≤ k → k < end → slice_index_or a k 0 ≡ slice_index_or b k 0

-- from one position up to another, no word has a bit in common with that of the other row
abbrev pub WordsApart : List ℕ → List ℕ → ℕ → ℕ → Type 0
WordsApart a b from end = (k : ℕ) → from ≤ k → k < end → bit_and (slice_index_or a k 0) (slice_index_or b k 0) ≡ 0

-- Bits of words of 64 bits: single ones, those of two rows, and how many there are.
use Rattle.std.specs.Prelude.{◌≡◌, ℕ, ◌*◌, ◌/◌, ◌%◌, ◌≤◌, ◌==◌, ◌&&◌, Bool, true, not, List, length, slice_index_or}
use Rattle.std.specs.List.{count_by, range_with_len}
use Rattle.std.specs.Int.{bit_at}
use Rattle.std.specs.Slice.Scan.{HoldsNowhere}
use mathlib.Core.Bool.{beq}

-- bit k is bit k % 64, counted from the least, of word k / 64
abbrev pub bit_of : List ℕ → ℕ → Bool
bit_of words k = bit_at (slice_index_or words (k / 64) 0) (k % 64) == 1

-- how many bits of the words are one
abbrev pub count_bits : List ℕ → ℕ
count_bits words = count_by (bit_of words) (range_with_len 0 (64 * length words))

-- the bit is one in one of the two alone
abbrev pub bit_differs : List ℕ → List ℕ → ℕ → Bool
bit_differs a b k = not (beq (bit_of a k) (bit_of b k))

-- how many bits differ
abbrev pub differing_bits : List ℕ → List ℕ → ℕ
differing_bits a b = count_by (bit_differs a b) (range_with_len 0 (64 * length a))

-- how many of the bits that are one in the mask differ
abbrev pub differing_bits_under : List ℕ → List ℕ → List ℕ → ℕ
differing_bits_under a b mask = count_by (λ k. bit_differs a b k && bit_of mask k) (range_with_len 0 (64 * length a))

-- some bit is one in both
abbrev pub HaveCommonBit : List ℕ → List ℕ → Type 0
HaveCommonBit a b = (k : ℕ) × (bit_of a k ≡ true) × (bit_of b k ≡ true)

-- the bit is one in the first words and zero in the others
abbrev pub in_not : List ℕ → List ℕ → ℕ → Bool
in_not words others k = bit_of words k && not (bit_of others k)

-- of the bits from a position on, this is the first that is one in the words and zero in the others
pub record IsNextBit (words others : List ℕ) (from k : ℕ) : Type 0 where
  pub on : from ≤ k
  pub is : in_not words others k ≡ true
  pub first : HoldsNowhere (in_not words others) from k

-- as many words as these have fewer than 2 ^ 32 bits
abbrev pub word_limit : ℕ
word_limit = 67108863

-- Words of the same bits are the same.
use Rattle.std.proofs.Common.{◌≡◌, ℕ, ◌+◌, ◌*◌, ◌/◌, ◌%◌, ◌^◌, ◌<◌, ◌==◌, List, length, slice_index_or, refl, sym, ap, ◌∙◌, arith}
use Rattle.std.specs.Int.{bit_at}
use Rattle.std.proofs.lemmas.Grind.{same_number_lists}
use Rattle.std.proofs.lemmas.Nat.Bits.{same_from_bits_below, bit_at-lt}
use Rattle.cb_lanes.specs.Words.{bit_of}
use Rattle.cb_lanes.proofs.Digits.{each_two}

same_digit : (x y : ℕ) → x < 2 → y < 2 → (x == 1) ≡ (y == 1) → x ≡ y
same_digit = each_two (λ x y. (x == 1) ≡ (y == 1) → x ≡ y) (λ same. refl) (λ same. absurd (cc)) (λ same. absurd (cc)) (λ same. refl)

-- bit i of word j is value 64 j + i
pub bit_there : (words : List ℕ) (j i : ℕ) → i < 64 → bit_of words (64 * j + i) ≡ bit_at (slice_index_or words j 0) i == 1
bit_there words j i lt =
    let word : (64 * j + i) / 64 ≡ j = omega arith in
    let bit : (64 * j + i) % 64 ≡ i = omega arith in
    ap (λ k. bit_at (slice_index_or words k 0) ((64 * j + i) % 64) == 1) word ∙ ap (λ k. bit_at (slice_index_or words j 0) k == 1) bit

pub words_alike : (a b : List ℕ) → length a ≡ length b → ((k : ℕ) → slice_index_or a k 0 < 2 ^ 64) → ((k : ℕ) → slice_index_or b k 0 < 2 ^ 64)
    → ((k : ℕ) → bit_of a k ≡ bit_of b k) → a ≡ b
words_alike a b len fits_a fits_b same =
    same_number_lists a b len (λ j lt.
    same_from_bits_below 64 (slice_index_or a j 0) (slice_index_or b j 0) (fits_a j) (fits_b j) (λ i within.
    same_digit (bit_at (slice_index_or a j 0) i) (bit_at (slice_index_or b j 0) i) (bit_at-lt _ i) (bit_at-lt _ i)
    (sym (bit_there a j i within) ∙ same (64 * j + i) ∙ bit_there b j i within)))

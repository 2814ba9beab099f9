-- Words that are made of two rows of words, one by one, and their bits.
use Rattle.std.proofs.Common.{◌≡◌, ℕ, ◌/◌, ◌%◌, ◌+◌, ◌<◌, ◌≤◌, ◌==◌, ◌&&◌, ◌||◌, Bool, false, not, List, length, slice_index_or, bit_and, bit_or, bit_xor, max, min, inl, inr, sym, ap, ◌∙◌, refl, arith}
use Rattle.std.specs.Int.{bit_at}
use Rattle.std.specs.Simd.Lanes.{zip2}
use Rattle.std.proofs.lemmas.Bool.{cases_lt}
use Rattle.std.proofs.lemmas.Grind.{same_number_lists}
use Rattle.std.proofs.lemmas.List.{get_or_past}
use Rattle.std.proofs.lemmas.Simd.{length-zip2, get_or-zip2}
use Rattle.std.proofs.lemmas.Nat.Bits.{bit_at_and, bit_at_or, bit_at_xor, bit_at-lt, bit_at-zero}
use mathlib.Core.Bool.{beq}
use Rattle.cb_lanes.specs.Words.{bit_of}
use Rattle.cb_lanes.proofs.Digits.{each_two}

-- all words are f of both
pub united : (f : ℕ → ℕ → ℕ) (a b words : List ℕ) → length words ≡ length a → length a ≡ length b
    → ((k : ℕ) → k < length a → slice_index_or words k 0 ≡ f (slice_index_or a k 0) (slice_index_or b k 0)) → words ≡ zip2 f a b
united f a b words len same each =
    let long = length-zip2 f a b same in
    same_number_lists words (zip2 f a b) (omega arith)
    (λ k lt. each k (omega arith) ∙ sym (get_or-zip2 f a b k 0 0 0 (omega arith) (omega arith)))

-- f of two words has the bits g of their bits, which keeps zeros
module _ (f : ℕ → ℕ → ℕ) (g : Bool → Bool → Bool) (of_zeros : g false false ≡ false)
    (bits : (v w i : ℕ) → (bit_at (f v w) i == 1) ≡ g (bit_at v i == 1) (bit_at w i == 1)) where
  past : (words : List ℕ) (k : ℕ) → length words ≤ k / 64 → bit_of words k ≡ false
  past words k le = ap (λ w. bit_at w (k % 64) == 1) (get_or_past words (k / 64) 0 le) ∙ ap (λ b. b == 1) (bit_at-zero (k % 64))

  pub zip_bit : (a b : List ℕ) → length a ≡ length b → (k : ℕ) → bit_of (zip2 f a b) k ≡ g (bit_of a k) (bit_of b k)
  zip_bit a b same k =
      let long = length-zip2 f a b same in
      elim (cases_lt (k / 64) (length a)) [
        | inl lt ↦ ap (λ w. bit_at w (k % 64) == 1) (get_or-zip2 f a b (k / 64) 0 0 0 lt (omega arith))
            ∙ bits (slice_index_or a (k / 64) 0) (slice_index_or b (k / 64) 0) (k % 64)
        | inr le ↦ past (zip2 f a b) k (omega arith) ∙ sym of_zeros
            ∙ sym (ap (λ x. g x (bit_of b k)) (past a k le) ∙ ap (g false) (past b k (omega arith)))
      ]

or_digits : (x y : ℕ) → x < 2 → y < 2 → (max x y == 1) ≡ (x == 1 || y == 1)
or_digits = each_two (λ x y. (max x y == 1) ≡ (x == 1 || y == 1)) refl refl refl refl

pub or_bits : (v w i : ℕ) → (bit_at (bit_or v w) i == 1) ≡ ((bit_at v i == 1) || (bit_at w i == 1))
or_bits v w i = ap (λ b. b == 1) (bit_at_or v w i) ∙ or_digits (bit_at v i) (bit_at w i) (bit_at-lt v i) (bit_at-lt w i)

xor_digits : (x y : ℕ) → x < 2 → y < 2 → ((x + y) % 2 == 1) ≡ not (beq (x == 1) (y == 1))
xor_digits = each_two (λ x y. ((x + y) % 2 == 1) ≡ not (beq (x == 1) (y == 1))) refl refl refl refl

pub xor_bits : (v w i : ℕ) → (bit_at (bit_xor v w) i == 1) ≡ not (beq (bit_at v i == 1) (bit_at w i == 1))
xor_bits v w i = ap (λ b. b == 1) (bit_at_xor v w i) ∙ xor_digits (bit_at v i) (bit_at w i) (bit_at-lt v i) (bit_at-lt w i)

and_digits : (x y : ℕ) → x < 2 → y < 2 → (min x y == 1) ≡ (x == 1 && y == 1)
and_digits = each_two (λ x y. (min x y == 1) ≡ (x == 1 && y == 1)) refl refl refl refl

pub and_bits : (v w i : ℕ) → (bit_at (bit_and v w) i == 1) ≡ ((bit_at v i == 1) && (bit_at w i == 1))
and_bits v w i = ap (λ b. b == 1) (bit_at_and v w i) ∙ and_digits (bit_at v i) (bit_at w i) (bit_at-lt v i) (bit_at-lt w i)

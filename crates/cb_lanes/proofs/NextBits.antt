-- The first bit, from a place of a word on, that is one in the word and zero in another.
use Rattle.std.proofs.Common.{◌≡◌, ◌≢◌, ℕ, ◌+◌, ◌-◌, ◌*◌, ◌/◌, ◌%◌, ◌^◌, ◌<◌, ◌≤◌, ◌==◌, ◌&&◌, false, not, min, max, List, slice_index_or, bit_and, refl, sym, ap, subst, ◌∙◌, inl, inr, Fits, w64, arith}
use Rattle.std.specs.Int.{bit_at, bit_not, trailing_zeros}
use Rattle.std.specs.Slice.Scan.{HoldsNowhere}
use Rattle.std.proofs.lemmas.Bool.{cases_lt}
use Rattle.std.proofs.lemmas.Nat.{shr-shr, shr_le, and_le_l}
use Rattle.std.proofs.lemmas.Nat.Bits.{bit_at_and, bit_at_not, bit_at_above, bit_at-lt, bit_at-zero, bit_at-trailing_zeros}
use Rattle.cb_lanes.specs.Words.{in_not, IsNextBit}
use Rattle.cb_lanes.proofs.Digits.{each_two}

left_digits : (x y : ℕ) → x < 2 → y < 2 → (x == 1 && not (y == 1)) ≡ (min x (1 - y) == 1)
left_digits = each_two (λ x y. (x == 1 && not (y == 1)) ≡ (min x (1 - y) == 1)) refl refl refl refl

-- there is none in the words before word i, and in this one it is sought from the start on; the other word is zero where the others have none
module _ (words others : List ℕ) (from i start other : ℕ)
    (fits : Fits w64 (slice_index_or words i 0)) (fits_other : other < 2 ^ 64) (there : other ≡ slice_index_or others i 0)
    (begun : from / 64 ≤ i) (is : start ≡ max from (64 * i)) (before : HoldsNowhere (in_not words others) from (64 * i)) where
  -- the word without the bits of the other one
  abbrev rest : ℕ
  rest = bit_and (slice_index_or words i 0) (bit_not w64 other)

  -- and without those before the start
  abbrev left : ℕ
  left = rest / 2 ^ (start % 64)

  rest_fits : rest < 2 ^ 64
  rest_fits = let e = and_le_l (slice_index_or words i 0) (bit_not w64 other) in let f = fits in omega arith

  left_bit : (j : ℕ) → bit_at left j ≡ bit_at rest (start % 64 + j)
  left_bit j = ap (λ n. n % 2) (shr-shr rest (start % 64) j)

  bit_here : (j : ℕ) → start % 64 + j < 64 → in_not words others (start + j) ≡ bit_at left j == 1
  bit_here j within =
      let word : (start + j) / 64 ≡ i = omega arith in
      let bit : (start + j) % 64 ≡ start % 64 + j = omega arith in
      ap (λ w. bit_at (slice_index_or words w 0) ((start + j) % 64) == 1 && not (bit_at (slice_index_or others w 0) ((start + j) % 64) == 1)) word
      ∙ ap (λ b. bit_at (slice_index_or words i 0) b == 1 && not (bit_at (slice_index_or others i 0) b == 1)) bit
      ∙ ap (λ o. bit_at (slice_index_or words i 0) (start % 64 + j) == 1 && not (bit_at o (start % 64 + j) == 1)) (sym there)
      ∙ left_digits _ _ (bit_at-lt (slice_index_or words i 0) (start % 64 + j)) (bit_at-lt other (start % 64 + j))
      ∙ ap (λ b. min (bit_at (slice_index_or words i 0) (start % 64 + j)) b == 1) (sym (bit_at_not w64 other (start % 64 + j) fits_other within))
      ∙ ap (λ b. b == 1) (sym (bit_at_and (slice_index_or words i 0) (bit_not w64 other) (start % 64 + j)) ∙ sym (left_bit j))

  nowhere : (end : ℕ) → ((j : ℕ) → start + j < end → in_not words others (start + j) ≡ false) → HoldsNowhere (in_not words others) from end
  nowhere end after k low high = elim (cases_lt k (64 * i)) [
    | inl lt ↦ before k low lt
    | inr le ↦ let e : start + (k - start) ≡ k = omega arith in subst (λ n. in_not words others n ≡ false) e (after (k - start) (omega arith))
  ]

  -- where nothing is left, there is no such bit in this word either
  pub none_here : left ≡ 0 → HoldsNowhere (in_not words others) from (64 * (i + 1))
  none_here nothing = nowhere (64 * (i + 1)) (λ j lt. bit_here j (omega arith) ∙ ap (λ n. bit_at n j == 1) nothing ∙ ap (λ b. b == 1) (bit_at-zero j))

  module _ (some : left ≢ 0) where
    abbrev found : ℕ
    found = start + trailing_zeros w64 left

    lowest : (trailing_zeros w64 left < 64) × (bit_at left (trailing_zeros w64 left) ≡ 1) × ((j : ℕ) → j < trailing_zeros w64 left → bit_at left j ≡ 0)
    lowest = bit_at-trailing_zeros w64 left (omega arith) (let e = shr_le rest (start % 64) in let f = rest_fits in omega arith)

    within : start % 64 + trailing_zeros w64 left < 64
    within = elim (cases_lt (start % 64 + trailing_zeros w64 left) 64) [
      | inl lt ↦ lt
      | inr le ↦ absurd (let e = bit_at_above rest 64 (start % 64 + trailing_zeros w64 left) rest_fits le in
          let f = left_bit (trailing_zeros w64 left) in
          let g = lowest.1 in
          omega arith)
    ]

    pub in_word : found < 64 * (i + 1)
    in_word = let e = within in omega arith

    -- the lowest bit that is left is the first
    pub first_here : IsNextBit words others from (start + trailing_zeros w64 left)
    first_here = record {
      on = omega arith;
      is = bit_here (trailing_zeros w64 left) within ∙ ap (λ b. b == 1) lowest.1;
      first = nowhere found (λ j below. let e = within in bit_here j (omega arith) ∙ ap (λ b. b == 1) (lowest.2 j (omega arith)));
    }

-- The nth one of a word, and the differences of two rows, word by word.
use Rattle.std.proofs.Common.{◌≡◌, ℕ, zero, suc, ◌+◌, ◌-◌, ◌*◌, ◌/◌, ◌%◌, ◌^◌, ◌<◌, ◌≤◌, ◌==◌, List, length, slice_index_or, bit_xor, w64, Bool, false, not, refl, sym, ap, subst, ◌∙◌, inl, inr, arith}
use Rattle.std.specs.Prelude.{count_ones}
use Rattle.std.specs.Int.{bit_at, trailing_zeros}
use Rattle.std.specs.List.{sum_by, range_with_len}
use Rattle.std.proofs.lemmas.Bool.{cases_lt, cases_eq}
use Rattle.std.proofs.lemmas.List.{get_or_past}
use Rattle.std.proofs.lemmas.List.Sums.{sum_by_push}
use Rattle.std.proofs.lemmas.Nat.{shr-shr, shr_le}
use Rattle.std.proofs.lemmas.Nat.Bits.{bit_at_above, bit_at-zero, bit_at-trailing_zeros}
use mathlib.Core.Bool.{beq}
use Rattle.cb_lanes.proofs.Alike.{bit_there}
use Rattle.cb_lanes.proofs.Ones.{ones_of_word}
use Rattle.cb_lanes.proofs.Zipped.{xor_bits}
use Rattle.cb_bits.specs.Bits.{Packs}
use Rattle.cb_compact.specs.Compact.{differs, differing_before}
use Rattle.cb_compact.specs.Nth.{ones_below, IsNthOne}
use Rattle.cb_compact.proofs.Counting.{once, both_false, before_more, before_end, no_fewer}
use Rattle.cb_compact.proofs.Numbers.{numbers_more}
use Rattle.cb_compact.proofs.Words.{bit_is}

module _ (word : ℕ) where
  below_more : (n : ℕ) → ones_below word (n + 1) ≡ ones_below word n + once (bit_at word n == 1)
  below_more n =
      let digit : ℕ → ℕ = λ k. once (bit_at word k == 1) in
      ap (sum_by digit) (numbers_more n) ∙ sum_by_push digit (range_with_len 0 n) n

  none_between : (n from to : ℕ) → from + n ≡ to → ((j : ℕ) → from ≤ j → j < to → bit_at word j ≡ 0) → ones_below word to ≡ ones_below word from
  none_between zero from to e none = let same : to ≡ from = omega arith in ap (ones_below word) same
  none_between (suc n) from to e none =
      let last : to ≡ from + n + 1 = omega arith in
      let whole = ap (ones_below word) last in
      let more = below_more (from + n) in
      let here : once (bit_at word (from + n) == 1) ≡ 0 = ap (λ b. once (b == 1)) (none (from + n) (omega arith) (omega arith)) in
      let rest = none_between n from (from + n) refl (λ j late early. none j late (omega arith)) in
      omega arith

  module _ (fits : word < 2 ^ 64) where
    -- the lowest one is the first
    pub first_one : 0 < word → IsNthOne word 1 (trailing_zeros w64 word)
    first_one some =
        let lowest = bit_at-trailing_zeros w64 word some fits in
        record {
          within = lowest.0;
          is = lowest.1;
          nth =
              let none = none_between (trailing_zeros w64 word) 0 (trailing_zeros w64 word) (omega arith) (λ j low lt. lowest.2 j lt) in
              let zeros : ones_below word 0 ≡ 0 = refl in
              omega arith;
        }

    -- past the nth one, where there are more
    module _ (n place : ℕ) (was : IsNthOne word n place) (more : n < count_ones word) where
      passed : ones_below word (place + 1) ≡ n
      passed =
          let step = below_more place in
          let here : once (bit_at word place == 1) ≡ 1 = ap (λ b. once (b == 1)) was.is in
          let nth = was.nth in
          omega arith

      pub in_word : place + 1 < 64
      in_word = elim (cases_lt (place + 1) 64) [
        | inl lt ↦ lt
        | inr le ↦
            let within = was.within in
            let end : place + 1 ≡ 64 = omega arith in
            let same = ap (ones_below word) end in
            let so_far = passed in
            let all = ones_of_word word fits in
            absurd (omega arith)
      ]

      abbrev rest : ℕ
      rest = word / 2 ^ (place + 1)

      rest_bit : (j : ℕ) → place + 1 ≤ j → bit_at word j ≡ bit_at rest (j - (place + 1))
      rest_bit j late =
          let at : place + 1 + (j - (place + 1)) ≡ j = omega arith in
          subst (λ m. bit_at word m ≡ bit_at rest (j - (place + 1))) at (sym (ap (λ m. m % 2) (shr-shr word (place + 1) (j - (place + 1)))))

      some : 0 < rest
      some = elim (cases_eq rest 0) [
        | inl e ↦
            let within = in_word in
            let none = none_between (64 - (place + 1)) (place + 1) 64 (omega arith)
            (λ j late lt. rest_bit j late ∙ ap (λ m. bit_at m (j - (place + 1))) e ∙ bit_at-zero (j - (place + 1))) in
            let so_far = passed in
            let all = ones_of_word word fits in
            absurd (omega arith)
        | inr other ↦ omega arith
      ]

      lowest : (trailing_zeros w64 rest < 64) × (bit_at rest (trailing_zeros w64 rest) ≡ 1) × ((j : ℕ) → j < trailing_zeros w64 rest → bit_at rest j ≡ 0)
      lowest = bit_at-trailing_zeros w64 rest some (let le = shr_le word (place + 1) in omega arith)

      abbrev next : ℕ
      next = place + 1 + trailing_zeros w64 rest

      next_is : bit_at word next ≡ 1
      next_is = let at : next - (place + 1) ≡ trailing_zeros w64 rest = omega arith in
          rest_bit next (omega arith) ∙ ap (bit_at rest) at ∙ lowest.1

      -- the next one is the lowest that is left
      pub next_one : IsNthOne word (n + 1) (place + 1 + trailing_zeros w64 (word / 2 ^ (place + 1)))
      next_one = record {
        within = elim (cases_lt next 64) [
          | inl lt ↦ lt
          | inr le ↦ let above = bit_at_above word 64 next fits le in let is = next_is in absurd (omega arith)
        ];
        is = next_is;
        nth =
            let none = none_between (trailing_zeros w64 rest) (place + 1) next refl (λ j late lt. rest_bit j late ∙ lowest.2 (j - (place + 1)) (omega arith)) in
            let so_far = passed in
            omega arith;
      }

module _ (v w : List Bool) (a b : List ℕ) (pv : Packs v a) (pw : Packs w b) (i : ℕ) where
  -- the bits of a word are where the two differ
  abbrev pub word_of : ℕ
  word_of = bit_xor (slice_index_or a i 0) (slice_index_or b i 0)

  pub differs_at : (j : ℕ) → j < 64 → differs v w (64 * i + j) ≡ (bit_at word_of j == 1)
  differs_at j lt =
      ap (λ x. not (beq x (slice_index_or w (64 * i + j) false))) (sym (bit_is v a pv (64 * i + j)) ∙ bit_there a i j lt)
      ∙ ap (λ y. not (beq (bit_at (slice_index_or a i 0) j == 1) y)) (sym (bit_is w b pw (64 * i + j)) ∙ bit_there b i j lt)
      ∙ sym (xor_bits (slice_index_or a i 0) (slice_index_or b i 0) j)

  pub counted : (k : ℕ) → k ≤ 64 → differing_before (64 * i + k) v w ≡ differing_before (64 * i) v w + ones_below word_of k
  counted zero le =
      let e : 64 * i + zero ≡ 64 * i = omega arith in
      let same = ap (λ n. differing_before n v w) e in
      let none : ones_below word_of 0 ≡ 0 = refl in
      omega arith
  counted (suc k) le =
      let e : 64 * i + suc k ≡ 64 * i + k + 1 = omega arith in
      let e' : suc k ≡ k + 1 = omega arith in
      let left = ap (λ n. differing_before n v w) e ∙ before_more v w (64 * i + k) in
      let right = ap (ones_below word_of) e' ∙ below_more word_of k in
      let here = ap once (differs_at k (omega arith)) in
      let rest = counted k (omega arith) in
      omega arith

  -- a whole word further
  pub word_further : word_of < 2 ^ 64 → differing_before (64 * (i + 1)) v w ≡ differing_before (64 * i) v w + count_ones word_of
  word_further fits =
      let e : 64 * (i + 1) ≡ 64 * i + 64 = omega arith in
      let whole = ap (λ n. differing_before n v w) e in
      let all = ones_of_word word_of fits in
      let here = counted 64 (omega arith) in
      omega arith

  -- after all words they differ nowhere
  pub all_counted : length v ≡ length w → length a ≤ i → (before : ℕ) → differing_before before v w ≤ differing_before (64 * i) v w
  all_counted same past before = elim (cases_lt before (64 * i)) [
    | inl lt ↦ no_fewer v w (64 * i - before) before (64 * i) (omega arith)
    | inr le ↦
        let enough = pv.holds.enough in
        let none = before_end v w (64 * i) before le (λ k low. both_false v w k (get_or_past v k false (omega arith)) (get_or_past w k false (omega arith))) in
        omega arith
  ]

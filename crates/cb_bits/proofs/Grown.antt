-- Words with zeros after them, and longer rows.
use Rattle.std.proofs.Common.{◌≡◌, ℕ, ◌-◌, ◌/◌, ◌%◌, ◌^◌, ◌<◌, ◌≤◌, ◌==◌, Bool, false, List, ◌++◌, length, take, replicate, slice_index_or, inl, inr, refl, sym, ap, ◌∙◌, arith}
use Rattle.std.specs.Int.{bit_at}
use Rattle.std.proofs.lemmas.Bool.{cases_lt}
use Rattle.std.proofs.lemmas.Grind.{div_ceil_times}
use Rattle.std.proofs.lemmas.List.{take_all, length-append, length-replicate, get_or-replicate, get_or_past, get_or_append_left, get_or-append_right}
use Rattle.cb_lanes.specs.Words.{bit_of}
use Rattle.cb_bits.specs.Bits.{values, words_for, Holds}
use Rattle.cb_bits.proofs.Values.{values-are, row_len, row_bit}
use Rattle.cb_bits.proofs.Zeros.{zeros, zero_word}

module _ (words after : List ℕ) (n m k l : ℕ) (row : List Bool) (is : values words n ≡ row) (holds : Holds words n) (le : length row ≤ m) (fits : m < 2 ^ 64)
    (k_is : k ≡ words_for m) (l_is : l ≡ length words) (grows : after ≡ take k words ++ zeros (k - l)) where
  abbrev tail : List ℕ
  tail = zeros (k - l)

  enough_words : length words ≤ k
  enough_words =
      let most = div_ceil_times m 64 (omega arith) in
      let tight = holds.no_more in
      let long = row_len words n row is in
      omega arith

  after_is : after ≡ words ++ tail
  after_is = grows ∙ ap (λ ws. ws ++ tail) (take_all k words enough_words)

  after_len : length after ≡ k
  after_len =
      let parts = ap length after_is ∙ length-append words tail in
      let zeros_len : length tail ≡ k - l = length-replicate (k - l) 0 in
      let most = enough_words in
      omega arith

  same_word : (j : ℕ) → slice_index_or after j 0 ≡ slice_index_or words j 0
  same_word j = ap (λ ws. slice_index_or ws j 0) after_is ∙ elim (cases_lt j (length words)) [
    | inl lt ↦ get_or_append_left words tail 0 j lt
    | inr past ↦ get_or-append_right words tail (length words) j 0 refl past ∙ zero_word (k - l) (j - length words) ∙ sym (get_or_past words j 0 past)
  ]

  same_bit : (i : ℕ) → bit_of after i ≡ bit_of words i
  same_bit i = ap (λ w. bit_at w (i % 64) == 1) (same_word (i / 64))

  pub grown_holds : Holds after m
  grown_holds =
      let most = div_ceil_times m 64 (omega arith) in
      let long = row_len words n row is in
      let count = after_len in
      record {
        fits = fits;
        enough = omega arith;
        no_more = omega arith;
        rest = λ i past. same_bit i ∙ holds.rest i (omega arith);
      }

  pub grown_values : values after m ≡ row ++ replicate (m - length row) false
  grown_values =
      let long = row_len words n row is in
      let more : List Bool = replicate (m - length row) false in
      let more_len : length more ≡ m - length row = length-replicate (m - length row) false in
      let whole = length-append row more in
      values-are after m (row ++ more) (omega arith)
      (λ i lt. same_bit i ∙ elim (cases_lt i n) [
        | inl inside ↦ row_bit words n row is i inside ∙ sym (get_or_append_left row more false i (omega arith))
        | inr past ↦ holds.rest i past ∙ sym (get_or-append_right row more n i false long past ∙ get_or-replicate (m - length row) (i - n) false false (omega arith))
      ])

-- What is found over the words of rows is found in the rows.
use Rattle.std.proofs.Common.{◌≡◌, ℕ, ◌-◌, ◌*◌, ◌^◌, ◌<◌, ◌≤◌, ◌&&◌, ◌==◌, ◌%◌, min, bit_and, w64, Bool, true, false, not, List, [], length, slice_index_or, refl, sym, ap, ◌∙◌, inl, inr, Option, Some, None, IfSome, IfNone, arith}
use Rattle.std.specs.Slice.Scan.{HoldsNowhere}
use Rattle.std.proofs.lemmas.Bool.{cases_lt}
use Rattle.std.proofs.lemmas.List.{get_or_past}
use Rattle.std.specs.Int.{bit_at, bit_not}
use Rattle.std.proofs.lemmas.Nat.{and_le_l}
use Rattle.std.proofs.lemmas.Nat.Bits.{bit_at_and, bit_at_not, bit_at-lt, bit_at-zero, same_from_bits_below}
use Rattle.cb_lanes.proofs.Digits.{each_digit}
use Rattle.std.proofs.lemmas.Simd.{length-zip2, get_or-zip2}
use Rattle.cb_lanes.specs.Words.{bit_of, in_not, IsNextBit}
use Rattle.cb_bits.specs.Bits.{values, difference, Holds, IsNextOne, HasNoneFrom}
use Rattle.cb_bits.proofs.Values.{row_len, row_bit}

-- the bits are the values of a row, and those past its end are zero
module _ (row : List Bool) (words others : List ℕ) (same : (k : ℕ) → in_not words others k ≡ slice_index_or row k false) where
  next_is : (from k : ℕ) → IsNextBit words others from k → IsNextOne row from k
  next_is from k next = record { on = next.on; is = sym (same k) ∙ next.is; first = λ j low high. sym (same j) ∙ next.first j low high }

  none_is : (from : ℕ) → length row ≤ 64 * length words → HoldsNowhere (in_not words others) from (64 * length words) → HasNoneFrom row from
  none_is from enough none k low = elim (cases_lt k (length row)) [
    | inl lt ↦ sym (same k) ∙ none k low (omega arith)
    | inr le ↦ get_or_past row k false le
  ]

  pub next_found : (from : ℕ) (found : Option ℕ) → IfSome found (IsNextBit words others from) → IfSome found (IsNextOne row from)
  next_found from found is = elim found as (λ o. IfSome o (IsNextBit words others from) → IfSome o (IsNextOne row from)) [
    | Some k ↦ λ next. next_is from k next
    | None ↦ λ next. next
  ] is

  pub none_found : (from : ℕ) (found : Option ℕ) → length row ≤ 64 * length words
      → IfNone found (HoldsNowhere (in_not words others) from (64 * length words)) → IfNone found (HasNoneFrom row from)
  none_found from found enough is = elim found as (λ o. IfNone o (HoldsNowhere (in_not words others) from (64 * length words)) → IfNone o (HasNoneFrom row from)) [
    | Some k ↦ λ none. none
    | None ↦ λ none. none_is from enough none
  ] is

-- of two rows of one length
module _ (row other : List Bool) (same : length row ≡ length other) where
  pub without_length : length (difference row other) ≡ length row
  without_length = length-zip2 (λ one other. one && not other) row other same

  pub without_at : (k : ℕ) → slice_index_or (difference row other) k false ≡ (slice_index_or row k false && not (slice_index_or other k false))
  without_at k = elim (cases_lt k (length row)) [
    | inl lt ↦ get_or-zip2 (λ one other. one && not other) row other k false false false lt (omega arith)
    | inr le ↦ get_or_past (difference row other) k false (let e = without_length in omega arith)
        ∙ sym (ap (λ b. b && not (slice_index_or other k false)) (get_or_past row k false le))
  ]

and_true : (b : Bool) → (b && true) ≡ b
and_true true = refl
and_true false = refl

bit_is : (words : List ℕ) (n : ℕ) (row : List Bool) → Holds words n → values words n ≡ row → (k : ℕ) → bit_of words k ≡ slice_index_or row k false
bit_is words n row holds is k = elim (cases_lt k n) [
  | inl lt ↦ row_bit words n row is k lt
  | inr le ↦ holds.rest k le ∙ sym (get_or_past row k false (let long = row_len words n row is in omega arith))
]

-- the words hold the values of a row
module _ (words : List ℕ) (n : ℕ) (row : List Bool) (holds : Holds words n) (is : values words n ≡ row) where
  pub long_enough : length row ≤ 64 * length words
  long_enough = let long = row_len words n row is in let e = holds.enough in omega arith

  pub alone : (k : ℕ) → in_not words [] k ≡ slice_index_or row k false
  alone k = ap (λ b. bit_of words k && not (b == 1)) (bit_at-zero (k % 64)) ∙ and_true (bit_of words k) ∙ bit_is words n row holds is k

  pub in_one : (others : List ℕ) (m : ℕ) (other : List Bool) → Holds others m → values others m ≡ other → length row ≡ length other
      → (k : ℕ) → in_not words others k ≡ slice_index_or (difference row other) k false
  in_one others m other also is_other same k =
      ap (λ b. b && not (bit_of others k)) (bit_is words n row holds is k)
      ∙ ap (λ b. slice_index_or row k false && not b) (bit_is others m other also is_other k)
      ∙ sym (without_at row other same k)

at_most_one : (x : ℕ) → x < 2 → min x 1 ≡ x
at_most_one = each_digit (λ x. min x 1 ≡ x) refl refl

-- a word loses no bit where none is taken away
pub all_left : (word : ℕ) → word < 2 ^ 64 → bit_and word (bit_not w64 0) ≡ word
all_left word fits =
    same_from_bits_below 64 (bit_and word (bit_not w64 0)) word (let e = and_le_l word (bit_not w64 0) in omega arith) fits (λ i lt.
    bit_at_and word (bit_not w64 0) i ∙ ap (min (bit_at word i)) (bit_at_not w64 0 i (omega arith) lt ∙ ap (λ n. 1 - n) (bit_at-zero i)) ∙ at_most_one (bit_at word i) (bit_at-lt word i))

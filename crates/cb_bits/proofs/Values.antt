-- The values that words hold, one by one.
use Rattle.std.proofs.Common.{◌≡◌, ◌≢◌, ℕ, ◌<◌, Bool, false, List, length, slice_index_or, slice_set, inl, inr, sym, ap, ◌∙◌, arith}
use Rattle.std.proofs.lemmas.Bool.{cases_eq}
use Rattle.std.proofs.lemmas.Grind.{get_or-set_at}
use Rattle.std.proofs.lemmas.List.{same_lists, get_or_default, get_or-set_other, length-set}
use Rattle.std.proofs.lemmas.List.FromFn.{length-map-range_with_len, get_or-map-range_with_len}
use Rattle.cb_lanes.specs.Words.{bit_of}
use Rattle.cb_bits.specs.Bits.{values, Holds}

pub length-values : (words : List ℕ) (n : ℕ) → length (values words n) ≡ n
length-values words n = length-map-range_with_len (bit_of words) 0 n

pub value-at : (words : List ℕ) (n k : ℕ) (d : Bool) → k < n → slice_index_or (values words n) k d ≡ bit_of words k
value-at words n k d lt = get_or-map-range_with_len (bit_of words) 0 n k k d lt (omega arith)

-- n values that are the bits in turn
pub values-are : (words : List ℕ) (n : ℕ) (row : List Bool) → length row ≡ n
    → ((k : ℕ) → k < n → bit_of words k ≡ slice_index_or row k false) → values words n ≡ row
values-are words n row len each =
    let long = length-values words n in
    same_lists (values words n) row (long ∙ sym len)
    (λ k d lt. value-at words n k d (omega arith) ∙ each k (omega arith) ∙ get_or_default row k false d (omega arith))

-- the words of a row hold as many values as it has, and they are its values
module _ (words : List ℕ) (n : ℕ) (row : List Bool) (is : values words n ≡ row) where
  pub row_len : length row ≡ n
  row_len = sym (ap length is) ∙ length-values words n

  pub row_bit : (k : ℕ) → k < n → bit_of words k ≡ slice_index_or row k false
  row_bit k lt = sym (value-at words n k false lt) ∙ ap (λ r. slice_index_or r k false) is

-- words that differ in one bit hold the row with that value set
module _ (words after : List ℕ) (n : ℕ) (row : List Bool) (is : values words n ≡ row) (k : ℕ) (b : Bool) (lt : k < n)
    (there : bit_of after k ≡ b) (elsewhere : (i : ℕ) → i ≢ k → bit_of after i ≡ bit_of words i) where
  pub set_value : values after n ≡ slice_set row k b
  set_value =
      let long = row_len words n row is in
      values-are after n (slice_set row k b) (length-set row k b ∙ long)
      (λ i within. elim (cases_eq i k) [
        | inl same ↦ ap (bit_of after) same ∙ there ∙ sym (get_or-set_at row k i b false same (omega arith))
        | inr other ↦ elsewhere i other ∙ row_bit words n row is i within ∙ sym (get_or-set_other row k i b false other)
      ])

  pub set_holds : length after ≡ length words → Holds words n → Holds after n
  set_holds same holds = record {
    fits = holds.fits;
    enough = let e = holds.enough in omega arith;
    no_more = let e = holds.no_more in omega arith;
    rest = λ i past. elsewhere i (λ is_k. let e = is_k in omega arith) ∙ holds.rest i past;
  }

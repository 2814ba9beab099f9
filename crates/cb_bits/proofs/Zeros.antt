-- Words of zeros.
use Rattle.std.proofs.Common.{◌≡◌, ℕ, ◌/◌, ◌%◌, ◌==◌, false, List, length, replicate, slice_index_or, inl, inr, sym, ap, ◌∙◌, arith}
use Rattle.std.specs.Int.{bit_at}
use Rattle.std.proofs.lemmas.Bool.{cases_lt}
use Rattle.std.proofs.lemmas.List.{get_or-replicate, get_or_past, length-replicate}
use Rattle.std.proofs.lemmas.Nat.Bits.{bit_at-zero}
use Rattle.cb_lanes.specs.Words.{bit_of}
use Rattle.cb_bits.specs.Bits.{values, Holds}
use Rattle.cb_bits.proofs.Values.{values-are}

abbrev pub zeros : ℕ → List ℕ
zeros m = replicate m 0

pub zero_word : (m j : ℕ) → slice_index_or (zeros m) j 0 ≡ 0
zero_word m j = elim (cases_lt j m) [
  | inl lt ↦ get_or-replicate m j 0 0 lt
  | inr le ↦ get_or_past (zeros m) j 0 (let e : length (zeros m) ≡ m = length-replicate m 0 in omega arith)
]

pub zero_bit : (m k : ℕ) → bit_of (zeros m) k ≡ false
zero_bit m k = ap (λ w. bit_at w (k % 64) == 1) (zero_word m (k / 64)) ∙ ap (λ b. b == 1) (bit_at-zero (k % 64))

pub zero_values : (words : List ℕ) (m n : ℕ) → words ≡ zeros m → values words n ≡ replicate n false
zero_values words m n are =
    ap (λ ws. values ws n) are
    ∙ values-are (zeros m) n (replicate n false) (length-replicate n false)
    (λ k lt. zero_bit m k ∙ sym (get_or-replicate n k false false lt))

-- zeros in the place of words hold as many values
pub zeros_hold : (words after : List ℕ) (n : ℕ) → after ≡ zeros (length words) → Holds words n → Holds after n
zeros_hold words after n are holds =
    let long = ap length are ∙ length-replicate (length words) 0 in
    record {
      fits = holds.fits;
      enough = let e = holds.enough in omega arith;
      no_more = let e = holds.no_more in omega arith;
      rest = λ k past. ap (λ ws. bit_of ws k) are ∙ zero_bit (length words) k;
    }

-- Words that are those of a row.
use Rattle.std.proofs.Common.{◌≡◌, ℕ, ◌^◌, ◌<◌, Bool, false, List, length, slice_index_or, inl, inr, sym, subst, ◌∙◌, arith}
use Rattle.std.specs.List.{All}
use Rattle.std.proofs.lemmas.Bool.{cases_lt}
use Rattle.std.proofs.lemmas.List.{same_lists, get_or_default, get_or_past}
use Rattle.cb_lanes.specs.Words.{bit_of}
use Rattle.cb_bits.specs.Bits.{values, Holds, Packs}
use Rattle.cb_bits.proofs.Values.{row_len, row_bit}
use Rattle.cb_lanes.proofs.Alike.{words_alike}

-- the words of a row's values
pub packs : (words : List ℕ) (n : ℕ) (row : List Bool) (shown : List ℕ) → Holds words n → values words n ≡ row → shown ≡ words
    → All (λ word. word < 2 ^ 64) shown → Packs row shown
packs words n row shown holds is same small =
    let long = row_len words n row is in
    record {
      holds = subst (λ ws. Holds ws (length row)) (sym same) (subst (Holds words) (sym long) holds);
      small = small;
      bits = λ k lt. subst (λ ws. bit_of ws k ≡ slice_index_or row k false) (sym same) (row_bit words n row is k (omega arith));
    }

-- no word reaches 2^64, where those of the list don't
pub small_word : (words : List ℕ) → All (λ word. word < 2 ^ 64) words → (k : ℕ) → slice_index_or words k 0 < 2 ^ 64
small_word words small k = elim (cases_lt k (length words)) [
  | inl lt ↦ small k 0 lt
  | inr le ↦ subst (λ w. w < 2 ^ 64) (sym (get_or_past words k 0 le)) (omega arith)
]

-- a row has its words alone
pub one_packing : (row : List Bool) (a b : List ℕ) → Packs row a → Packs row b → a ≡ b
one_packing row a b pa pb =
    let ea = pa.holds.enough in
    let na = pa.holds.no_more in
    let eb = pb.holds.enough in
    let nb = pb.holds.no_more in
    words_alike a b (omega arith) (small_word a pa.small) (small_word b pb.small)
    (λ k. elim (cases_lt k (length row)) [
      | inl lt ↦ pa.bits k lt ∙ sym (pb.bits k lt)
      | inr le ↦ pa.holds.rest k le ∙ sym (pb.holds.rest k le)
    ])

-- words are those of one row of a length
pub one_row : (v w : List Bool) (words : List ℕ) → length v ≡ length w → Packs v words → Packs w words → v ≡ w
one_row v w words same pv pw =
    same_lists v w same (λ k d lt.
    get_or_default v k d false lt ∙ sym (pv.bits k lt) ∙ pw.bits k (omega arith) ∙ get_or_default w k false d (omega arith))

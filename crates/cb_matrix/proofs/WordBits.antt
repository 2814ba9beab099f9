-- The bits of words as a row.
use Rattle.std.proofs.Common.{◌≡◌, ◌↔◌, ℕ, ◌*◌, ◌/◌, ◌%◌, ◌<◌, ◌≤◌, ◌&&◌, ◌==◌, false, not, List, length, replicate, slice_index_or, Option, Some, None, IfSome, sym, ap, ◌∙◌, inl, inr, arith}
use Rattle.std.specs.Int.{bit_at}
use Rattle.std.proofs.lemmas.Bool.{cases_lt}
use Rattle.std.proofs.lemmas.List.{get_or_past}
use Rattle.std.proofs.lemmas.Nat.Bits.{bit_at-zero}
use Rattle.cb_lanes.specs.Words.{bit_of, in_not}
use Rattle.cb_bits.specs.Bits.{difference, IsNextOne}
use Rattle.cb_bits.proofs.NextOnes.{without_length, without_at}
use Rattle.cb_bits.proofs.Values.{length-values, value-at}
use Rattle.cb_bits.proofs.Zeros.{zero_bit}
use Rattle.cb_successors.specs.Rows.{Has}
use Rattle.cb_successors.specs.Graphs.{LeadsTo}
use Rattle.cb_topo.specs.Numbered.{Numbered}
use Rattle.cb_graph.specs.Edges.{EdgeAt}
use Rattle.cb_graph.proofs.Listing.{has_within}
use Rattle.cb_cache.specs.Cached.{IsReachedRow}
use Rattle.cb_matrix.specs.Codes.{bits}

past_words : (words : List ℕ) (k : ℕ) → 64 * length words ≤ k → bit_of words k ≡ false
past_words words k le = ap (λ w. bit_at w (k % 64) == 1) (get_or_past words (k / 64) 0 (omega arith)) ∙ ap (λ b. b == 1) (bit_at-zero (k % 64))

pub length-bits : (words : List ℕ) → length (bits words) ≡ 64 * length words
length-bits words = length-values words (64 * length words)

-- a bit is the value at its place
pub bit_is : (words : List ℕ) (k : ℕ) → bit_of words k ≡ slice_index_or (bits words) k false
bit_is words k = elim (cases_lt k (64 * length words)) [
  | inl lt ↦ sym (value-at words (64 * length words) k false lt)
  | inr le ↦ past_words words k le ∙ sym (get_or_past (bits words) k false (let e = length-bits words in omega arith))
]

pub same_length : (words others : List ℕ) → length words ≡ length others → length (bits words) ≡ length (bits others)
same_length words others same = let one = length-bits words in let other = length-bits others in omega arith

-- a bit that is one here and zero there is one of the nodes by which the rows differ
pub left_bit : (words others : List ℕ) → length words ≡ length others → (k : ℕ) → in_not words others k ≡ slice_index_or (difference (bits words) (bits others)) k false
left_bit words others same k =
    ap (λ b. b && not (bit_of others k)) (bit_is words k) ∙ ap (λ b. slice_index_or (bits words) k false && not b) (bit_is others k)
    ∙ sym (without_at (bits words) (bits others) (same_length words others same) k)

-- zeros have no node
pub none_has : (words : List ℕ) (width : ℕ) → words ≡ replicate width 0 → (k : ℕ) → ¬ Has (bits words) k
none_has words width zeros k has = let off = ap (λ ws. bit_of ws k) zeros ∙ zero_bit width k in let is = bit_is words k in absurd (cc)

-- a row of what is led to has the nodes that are led to
pub has_reached : (n : Numbered) (i : ℕ) (words : List ℕ) → IsReachedRow n i words → (k : ℕ) → Has (bits words) k ↔ LeadsTo (EdgeAt n) i k
has_reached n i words reached k = (λ has. (reached k).0 (bit_is words k ∙ has), λ leads. sym (bit_is words k) ∙ (reached k).1 leads)

-- a node that is found is one of the bits
pub found_below : (words others : List ℕ) → length words ≡ length others → (from : ℕ) (found : Option ℕ)
    → IfSome found (IsNextOne (difference (bits words) (bits others)) from) → IfSome found (λ k. k < 64 * length words)
found_below words others same from found is = elim found as (λ o. IfSome o (IsNextOne (difference (bits words) (bits others)) from) → IfSome o (λ k. k < 64 * length words)) [
  | Some k ↦ λ next. (
      let lt = has_within (difference (bits words) (bits others)) k next.is in
      let wide = without_length (bits words) (bits others) (same_length words others same) in
      let long = length-bits words in
      omega arith)
  | None ↦ λ next. next
] is

-- A row of what a search has met, in words.
use Rattle.std.proofs.Common.{◌≡◌, ℕ, ◌||◌, ◌<◌, List, Bool, true, false, length, slice_index_or, bit_or, sym, ◌∙◌, inl, inr, arith}
use Rattle.std.specs.Simd.Lanes.{zip2}
use Rattle.std.proofs.lemmas.Bool.{cases_lt}
use Rattle.std.proofs.lemmas.List.{get_or_past}
use Rattle.std.proofs.lemmas.Simd.{length-zip2}
use Rattle.cb_lanes.specs.Words.{bit_of}
use Rattle.cb_bits.specs.Bits.{Packs, values, words_for}
use Rattle.cb_bits.proofs.Values.{length-values, value-at}
use Rattle.cb_successors.specs.Rows.{Has}
use Rattle.cb_successors.proofs.Marks.{or_left, or_right, or_cases}
use Rattle.cb_cache.specs.Reached.{IsReached, IsMet, IsAllMet}
use Rattle.cb_cache.proofs.United.{united_cases}

-- the words of a row have its values, and zeros past them
pub packed_bit : (row : List Bool) (words : List ℕ) → Packs row words → (k : ℕ) → bit_of words k ≡ slice_index_or row k false
packed_bit row words packs k = elim (cases_lt k (length row)) [
  | inl lt ↦ packs.bits k lt
  | inr le ↦ packs.holds.rest k le ∙ sym (get_or_past row k false le)
]

-- a row has as many words as its values need
pub packed_length : (row : List Bool) (words : List ℕ) (n : ℕ) → Packs row words → length row ≡ n → length words ≡ words_for n
packed_length row words n packs long =
    let enough = packs.holds.enough in
    let no_more = packs.holds.no_more in
    omega arith

pub reached_words : (edge : ℕ → ℕ → Type 0) (i : ℕ) (found : List Bool) (words joined : List ℕ) → Packs found words → length words ≡ length joined → IsAllMet edge i found joined
    → IsReached edge i (zip2 bit_or words joined)
reached_words edge i found words joined packs same met k =
    let is = packed_bit found words packs k in
    let cases = united_cases words joined same k in (
      λ bit. (met k).0 (elim (cases.0 bit) [ inl left ↦ inl (sym is ∙ left) | inr right ↦ inr right ]),
      λ leads. cases.1 (elim ((met k).1 leads) [ inl has ↦ inl (is ∙ has) | inr bit ↦ inr bit ]),
    )

-- what is met, as a row
module _ (found : List Bool) (joined : List ℕ) where
  abbrev bits : List Bool
  bits = values joined (length found)

  pub row_met : List Bool
  row_met = zip2 (λ one other. one || other) found bits

  same : length found ≡ length bits
  same = sym (length-values joined (length found))

  pub length-row_met : length row_met ≡ length found
  unfolding row_met
  length-row_met = length-zip2 (λ one other. one || other) found bits same

  bit_at_place : (k : ℕ) → Has bits k → bit_of joined k ≡ true
  bit_at_place k has = elim (cases_lt k (length found)) [
    | inl lt ↦ sym (value-at joined (length found) k false lt) ∙ has
    | inr le ↦ absurd (let e = get_or_past bits k false (let f = same in omega arith) in cc)
  ]

  pub has_met : (k : ℕ) → Has row_met k → IsMet found joined k
  unfolding row_met
  has_met k has = elim (or_cases found bits same k has) [
    | inl left ↦ inl left
    | inr right ↦ inr (bit_at_place k right)
  ]

  pub met_has : (k : ℕ) → k < length found → IsMet found joined k → Has row_met k
  unfolding row_met
  met_has k lt met = elim met [
    | inl left ↦ or_left found bits same k left
    | inr bit ↦ or_right found bits same k (value-at joined (length found) k false lt ∙ bit)
  ]

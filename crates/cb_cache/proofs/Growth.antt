-- What is written over a row that is extended.
use Rattle.std.proofs.Common.{◌≡◌, ◌↔◌, ℕ, List, [], ◌∷◌, Bool, true, length, bit_or, refl, sym, subst, ◌∙◌, inl, inr}
use Rattle.std.specs.Simd.Lanes.{zip2}
use Rattle.cb_lanes.specs.Words.{bit_of, HaveCommonBit}
use Rattle.cb_bits.specs.Bits.{Packs}
use Rattle.cb_successors.specs.Graphs.{EdgeChain}
use Rattle.cb_cache.specs.Reached.{IsMet}
use Rattle.cb_cache.specs.Extended.{IsLedByWords, IsSettledBut, HasTouched}
use Rattle.cb_cache.proofs.United.{united_cases}
use Rattle.cb_cache.proofs.Written.{packed_bit}

-- the words that are written have what was met
pub met_words : (Q : ℕ → Type 0) (found : List Bool) (words joined : List ℕ) → Packs found words → length words ≡ length joined → ((k : ℕ) → IsMet found joined k ↔ Q k)
    → (k : ℕ) → (bit_of (zip2 bit_or words joined) k ≡ true) ↔ Q k
met_words Q found words joined packs same met k =
    let is = packed_bit found words packs k in
    let cases = united_cases words joined same k in (
      λ bit. (met k).0 (elim (cases.0 bit) [ inl left ↦ inl (sym is ∙ left) | inr right ↦ inr right ]),
      λ holds. cases.1 (elim ((met k).1 holds) [ inl has ↦ inl (is ∙ has) | inr bit ↦ inr bit ]),
    )

-- a common bit is a touched node
pub common_touched : (touched : List Bool) (row words marks : List ℕ) → Packs touched marks → row ≡ words → HaveCommonBit row marks → HasTouched touched words
common_touched touched row words marks packs same (k, bit, mark) = (k, sym (packed_bit touched marks packs k) ∙ mark, subst (λ ws. bit_of ws k ≡ true) same bit)

pub touched_common : (touched : List Bool) (row words marks : List ℕ) → Packs touched marks → row ≡ words → HasTouched touched words → HaveCommonBit row marks
touched_common touched row words marks packs same (k, is, bit) = (k, subst (λ ws. bit_of ws k ≡ true) (sym same) bit, packed_bit touched marks packs k ∙ is)

module _ (edge : ℕ → ℕ → Type 0) (touched : List Bool) (words : List ℕ) (settled : IsSettledBut edge touched words) (clean : ¬ HasTouched touched words) where
  stays_within : (from : ℕ) (rest : List ℕ) (to : ℕ) → EdgeChain edge from rest to → bit_of words from ≡ true → bit_of words to ≡ true
  stays_within from [] to same bit = subst (λ k. bit_of words k ≡ true) same bit
  stays_within from (next ∷ rest) to chain bit = stays_within next rest to chain.1 (settled from next bit (λ is. clean (from, is, bit)) chain.0)

  -- a row without touched nodes has all that its nodes lead to
  pub clean_led : (k : ℕ) → (bit_of words k ≡ true) ↔ IsLedByWords edge words k
  clean_led k = (λ bit. (k, bit, ([], refl)), λ (from, bit, leads). stays_within from leads.0 k leads.1 bit)

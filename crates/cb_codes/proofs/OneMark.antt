-- Marks of codes: how the columns are found one by one, and that a code has one mark.
use Rattle.std.proofs.Common.{◌≡◌, ℕ, ◌+◌, ◌-◌, ◌≤◌, List, [], ◌∷◌, ◌++◌, length, sym, ap, ◌∙◌, inl, inr, Bool, arith}
use Rattle.std.proofs.lemmas.Bool.{cases_Bool}
use Rattle.std.proofs.lemmas.List.Sums.{fold-append}
use Rattle.cb_bits.proofs.Packed.{one_packing}
use Rattle.cb_bits.specs.Bits.{IsNextOne, HasNoneFrom}
use Rattle.cb_coding.specs.Distance.{bit}
use Rattle.cb_compact.specs.Few.{are_few}
use Rattle.cb_codes.specs.Marks.{IsMark, columns_of, code_weight, mark_of, mixed}
use Rattle.cb_codes.proofs.ByColumn.{had_within}
use Rattle.cb_codes.proofs.Passing.{passing, one_more_passes, none_further}

module _ (code : List Bool) where
  -- the next column comes after those before it
  pub next_column : (from column : ℕ) → IsNextOne code from column
      → (passing (bit code) from ++ column ∷ [] ≡ passing (bit code) (column + 1)) × (column + 1 ≤ length code)
  next_column from column next =
      let on = next.on in
      let between = none_further (bit code) from (column - from) column (omega arith) next.first in
      let within = had_within code column next.is in
      (ap (λ cs. cs ++ column ∷ []) (sym between) ∙ one_more_passes (bit code) column next.is, omega arith)

  -- and so in the mark
  pub next_mark : (mark from column : ℕ) → mark ≡ mark_of (passing (bit code) from) → IsNextOne code from column
      → mixed mark column ≡ mark_of (passing (bit code) (column + 1))
  next_mark mark from column is next =
      ap (λ m. mixed m column) is ∙ sym (fold-append mixed (mark_of []) (passing (bit code) from) (column ∷ [])) ∙ ap mark_of (next_column from column next).0

  -- where none comes these are all
  pub no_further_column : (from : ℕ) → from ≤ length code → HasNoneFrom code from → passing (bit code) from ≡ columns_of code
  no_further_column from within none = sym (none_further (bit code) from (length code - from) (length code) (omega arith) (λ k le lt. none k le))

  -- a code has one mark
  pub one_mark : (a b : ℕ) → IsMark code a → IsMark code b → a ≡ b
  one_mark a b of_a of_b = elim (cases_Bool (are_few (length code) (code_weight code))) [
    | inl few ↦ of_a.sparse few ∙ sym (of_b.sparse few)
    | inr many ↦
        let one = of_a.dense many in
        let other = of_b.dense many in
        one.is ∙ ap mark_of (one_packing code one.words other.words one.packs other.packs) ∙ sym other.is
  ]

-- What is sought among the nodes of a row that another lacks.
use Rattle.std.proofs.Common.{◌≡◌, ℕ, ◌&&◌, Bool, true, false, not, List, length, slice_index_or, refl, sym, ◌∙◌, Option, Some, None, IfSome, IfNone, arith}
use Rattle.cb_bits.specs.Bits.{difference, IsNextOne, HasNoneFrom}
use Rattle.cb_bits.proofs.NextOnes.{without_at}
use Rattle.cb_successors.specs.Rows.{IsLeft, HasAllOf}

-- a value that is true, and another that is false
left_over : (a b : Bool) → (a && not b) ≡ true → (a ≡ true) × (b ≡ false)
left_over true true e = absurd (cc)
left_over true false e = (refl, refl)
left_over false b e = absurd (cc)

none_over : (a b : Bool) → (a && not b) ≡ false → a ≡ true → b ≡ true
none_over true true e h = refl
none_over true false e h = absurd (cc)
none_over false b e h = absurd (cc)

module _ (row other : List Bool) (same : length row ≡ length other) (from : ℕ) (found : Option ℕ) where
  pub left_found : IfSome found (IsNextOne (difference row other) from) → IfSome found (IsLeft row other)
  left_found is = elim found as (λ o. IfSome o (IsNextOne (difference row other) from) → IfSome o (IsLeft row other)) [
    | Some k ↦ λ next. left_over (slice_index_or row k false) (slice_index_or other k false) (sym (without_at row other same k) ∙ next.is)
    | None ↦ λ next. next
  ] is

  pub all_found : IfNone found (HasNoneFrom (difference row other) 0) → IfNone found (HasAllOf other row)
  all_found is = elim found as (λ o. IfNone o (HasNoneFrom (difference row other) 0) → IfNone o (HasAllOf other row)) [
    | Some k ↦ λ none. none
    | None ↦ λ none k has. none_over (slice_index_or row k false) (slice_index_or other k false) (sym (without_at row other same k) ∙ none k (omega arith)) has
  ] is

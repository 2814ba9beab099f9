-- Entries in order.
use Rattle.std.proofs.Common.{◌≡◌, ◌⊎◌, ℕ, ◌<◌, List, refl, sym, ap, ◌∙◌, arith, Some, inl, inr}
use Rattle.std.specs.Prelude.{slice_get}
use Rattle.std.specs.Ordering.{nat_cmp, on, then_cmp}
use Rattle.std.specs.declared.cmp.Ordering.{Ordering}
use Rattle.std.specs.declared.cmp.Ordering.TheVariants.{Less, Equal, Greater}
use Rattle.std.proofs.lemmas.Bool.{cases_order}
use Rattle.std.proofs.lemmas.Bool.Decides.{nat_tests}
use Rattle.std.proofs.lemmas.Option.{slice_get_within, get_or_from_slice_get, same_Some}
use Rattle.cb_model.specs.Order.{Rises}
use Rattle.cb_levels.specs.declared.levels.LevelEntry.{LevelEntry}
use Rattle.cb_levels.specs.Canonical.{entry_cmp}

nat_less : (a b : ℕ) → nat_cmp a b ≡ Less → a < b
nat_less a b e = grind (arith, nat_tests)

nat_equal : (a b : ℕ) → nat_cmp a b ≡ Equal → a ≡ b
nat_equal a b e = grind (arith, nat_tests)

-- what stands before is of a lesser level, or of the same level and a lesser node
pub less_cases : (x y : LevelEntry) → entry_cmp x y ≡ Less → (x.level < y.level) ⊎ ((x.level ≡ y.level) × (x.node < y.node))
less_cases x y =
    elim (nat_cmp x.level y.level) as (λ o. nat_cmp x.level y.level ≡ o → then_cmp (λ _ _. o) (on (λ (e : LevelEntry). e.node) nat_cmp) x y ≡ Less
    → (x.level < y.level) ⊎ ((x.level ≡ y.level) × (x.node < y.node))) [
      | Less ↦ λ is e. inl (nat_less x.level y.level is)
      | Equal ↦ λ is e. inr (nat_equal x.level y.level is, nat_less x.node y.node e)
      | Greater ↦ λ is e. absurd (cc)
    ] refl

-- the entry of the lesser position stands before the other
pub rises_at : {X : Type 0} (cmp : X → X → Ordering) (xs : List X) → Rises cmp xs → (i j : ℕ) (x y : X) → i < j → slice_get xs i ≡ Some x
    → slice_get xs j ≡ Some y → cmp x y ≡ Less
rises_at cmp xs rise i j x y below at_i at_j =
    rw (get_or_from_slice_get xs i x x at_i, get_or_from_slice_get xs j y x at_j) at (rise i j x below (slice_get_within xs j y at_j))

module _ (xs : List LevelEntry) (rise : Rises entry_cmp xs) where
  -- an entry of a lesser level stands at a lesser position
  pub lesser_position : (i j : ℕ) (x y : LevelEntry) → slice_get xs i ≡ Some x → slice_get xs j ≡ Some y → x.level < y.level → i < j
  lesser_position i j x y at_i at_j lower =
      elim (cases_order i j) [
        | inl same ↦
            let e : x ≡ y = same_Some x y (sym at_i ∙ (ap (slice_get xs) same ∙ at_j)) in
            let f = ap (λ (z : LevelEntry). z.level) e in
            absurd (omega arith)
        | inr (inl below) ↦ below
        | inr (inr above) ↦ elim (less_cases y x (rises_at entry_cmp xs rise j i y x above at_j at_i)) [
          | inl less ↦ absurd (omega arith)
          | inr both ↦ let e = both.0 in absurd (omega arith)
        ]
      ]

  -- entries of one level and one node stand at one position
  pub one_entry : (i j : ℕ) (x y : LevelEntry) → slice_get xs i ≡ Some x → slice_get xs j ≡ Some y → x.level ≡ y.level → x.node ≡ y.node → i ≡ j
  one_entry i j x y at_i at_j level node =
      elim (cases_order i j) [
        | inl same ↦ same
        | inr (inl below) ↦ elim (less_cases x y (rises_at entry_cmp xs rise i j x y below at_i at_j)) [
          | inl less ↦ absurd (omega arith)
          | inr both ↦ let e = both.1 in absurd (omega arith)
        ]
        | inr (inr above) ↦ elim (less_cases y x (rises_at entry_cmp xs rise j i y x above at_j at_i)) [
          | inl less ↦ absurd (omega arith)
          | inr both ↦ let e = both.1 in absurd (omega arith)
        ]
      ]

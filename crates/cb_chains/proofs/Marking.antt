-- Positions that are marked, one after the other.
use Rattle.std.proofs.Common.{◌≡◌, ◌⊎◌, ℕ, ◌+◌, ◌<◌, ◌≤◌, List, Bool, true, Some, length, slice_get, slice_set, refl, sym, subst, ◌∙◌, inl, inr, arith}
use Rattle.std.specs.List.{All}
use Rattle.std.proofs.lemmas.Bool.{cases_lt}
use Rattle.std.proofs.lemmas.List.{length-set}
use Rattle.std.proofs.lemmas.Option.{same_Some, slice_get_within, slice_get-get_or}
use Rattle.cb_successors.specs.Rows.{Has}
use Rattle.cb_successors.proofs.Marks.{has_set}
use Rattle.cb_breadth.proofs.Lists.{has_still}
use Rattle.cb_breadth.specs.declared.visit.Visit.{Visit}
use Rattle.cb_chains.specs.Kept.{HasMarkedParents}

module _ {X : Type 0} (at : X → ℕ) (xs : List X) where
  -- where the first items say is marked
  pub record AreMarkedTo (to : ℕ) (old row : List Bool) : Type 0 where
    pub capacity : length row ≡ length old
    pub kept : (k : ℕ) → Has old k → Has row k
    pub all : (i : ℕ) (x : X) → i < to → slice_get xs i ≡ Some x → Has row (at x)

  pub none_marked : (row : List Bool) → AreMarkedTo 0 row row
  none_marked row = record { capacity = refl; kept = λ k has. has; all = λ i x lt is. absurd (omega arith) }

  pub one_marked : (to : ℕ) (old row : List Bool) → AreMarkedTo to old row → (x : X) → slice_get xs to ≡ Some x → at x < length row
      → AreMarkedTo (to + 1) old (slice_set row (at x) true)
  one_marked to old row before x here low = record {
    capacity = length-set row (at x) true ∙ before.capacity;
    kept = λ k has. has_still row (at x) k low (before.kept k has);
    all = λ i y lt is. elim (cases_lt i to) [
      | inl early ↦ has_still row (at x) (at y) low (before.all i y early is)
      | inr late ↦
          let last : to ≡ i = omega arith in
          let same : x ≡ y = same_Some x y (sym here ∙ subst (λ k. slice_get xs k ≡ Some y) (sym last) is) in
          subst (λ (z : X). Has (slice_set row (at x) true) (at z)) same (has_set row (at x) low)
    ];
  }

  pub all_marked : (to : ℕ) (old row : List Bool) → AreMarkedTo to old row → length xs ≤ to → All (λ x. Has row (at x)) xs
  all_marked to old row marked end k d low = marked.all k _ (omega arith) (slice_get-get_or xs k d low)

-- with each visit from a position on its parent is marked
pub record HasMarkedParentsFrom (visits : List Visit) (from : ℕ) (old row : List Bool) : Type 0 where
  pub capacity : length row ≡ length old
  pub kept : (k : ℕ) → Has old k → Has row k
  pub each : (i : ℕ) (v : Visit) → from ≤ i → slice_get visits i ≡ Some v → Has row (i + 1) → Has row v.parent

pub no_parents_marked : (visits : List Visit) (row : List Bool) (from : ℕ) → length visits ≤ from → HasMarkedParentsFrom visits from row row
no_parents_marked visits row from end = record {
  capacity = refl;
  kept = λ k has. has;
  each = λ i v low at has. absurd (let within = slice_get_within visits i v at in omega arith);
}

-- the parent of one visit more, which comes before it
pub parent_marked : (visits : List Visit) (position : ℕ) (old row row' : List Bool) (v : Visit) → HasMarkedParentsFrom visits (position + 1) old row
    → slice_get visits position ≡ Some v → v.parent ≤ position → length row' ≡ length row → ((k : ℕ) → Has row k → Has row' k)
    → (Has row (position + 1) → Has row' v.parent) → ((k : ℕ) → Has row' k → Has row k ⊎ (k ≡ v.parent)) → HasMarkedParentsFrom visits position old row'
parent_marked visits position old row row' v before here low same kept both only = record {
  capacity = same ∙ before.capacity;
  kept = λ k has. kept k (before.kept k has);
  each = λ i w from at has. elim (only (i + 1) has) [
    | inl had ↦ elim (cases_lt position i) [
      | inl later ↦ kept w.parent (before.each i w (omega arith) at had)
      | inr early ↦
          let this : position ≡ i = omega arith in
          let one : v ≡ w = same_Some v w (sym here ∙ subst (λ k. slice_get visits k ≡ Some w) (sym this) at) in
          subst (λ (x : Visit). Has row' x.parent) one (both (subst (λ k. Has row (k + 1)) (sym this) had))
    ]
    | inr new ↦ absurd (omega arith)
  ];
}

pub all_parents_marked : (visits : List Visit) (from : ℕ) (old row : List Bool) → HasMarkedParentsFrom visits from old row → from ≤ 0 → HasMarkedParents visits row
all_parents_marked visits from old row marked start i v at has = marked.each i v (omega arith) at has

-- The first of several edges that isn't there.
use Rattle.std.proofs.Common.{◌≡◌, inl, inr, ℕ, ◌+◌, ◌-◌, ◌<◌, ◌≤◌, min, List, Bool, false, [], ◌∷◌, ◌++◌, length, take, drop, get_or, sym, subst, ◌∙◌, Option, None, Some, arith}
use Rattle.std.specs.Prelude.{slice_set}
use Rattle.std.specs.List.{AllWithin, Contains, slice_range}
use Rattle.std.proofs.lemmas.Bool.{false≢true, cases_eq, cases_lt}
use Rattle.std.proofs.lemmas.List.{get_or-take, get_or-drop, get_or-set_same, get_or-set_other, length-take}
use Rattle.std.proofs.Math.Seq.{take-add}
use Rattle.std.proofs.lemmas.List.Elements.{Contains-append_left, Contains-append_right, Contains-append_cases, Contains-push_cases}
use Rattle.cb_successors.specs.Rows.{Has}
use Rattle.cb_checker.specs.declared.reasons.Reason.{Reason}
use Rattle.cb_checker.specs.Reasons.{HasNoEnds, IsFirstLacking, IsFirstWithout, IsSooner}

-- what is so of the same ones has the same first without it
pub first_same : (P Q : Reason → Type 0) (reasons : List Reason) → ((r : Reason) → Contains reasons r → P r → Q r) → ((r : Reason) → Contains reasons r → Q r → P r)
    → (first : Option ℕ) → IsFirstWithout P reasons first → IsFirstWithout Q reasons first
first_same P Q reasons to from None is = λ r in'. to r in' (is r in')
first_same P Q reasons to from (Some place) is = record {
  reason = is.reason;
  is = is.is;
  at = is.at;
  lacks = λ has. is.lacks (from is.reason is.is has);
  before = λ other in' low. to other in' (is.before other in' low);
}

-- in another order the first is the same
pub first_moved : (P : Reason → Type 0) (old new : List Reason) → ((r : Reason) → Contains old r → Contains new r) → ((r : Reason) → Contains new r → Contains old r)
    → (first : Option ℕ) → IsFirstWithout P new first → IsFirstWithout P old first
first_moved P old new to from None is = λ r in'. is r (to r in')
first_moved P old new to from (Some place) is = record {
  reason = is.reason;
  is = from is.reason is.is;
  at = is.at;
  lacks = is.lacks;
  before = λ other in' low. is.before other (to other in') low;
}

module _ (P : Reason → Type 0) (xs ys : List Reason) where
  -- the first of the one list is the first of both
  left_first : (p : ℕ) → IsFirstLacking P xs p → ((other : Reason) → Contains ys other → other.place < p → P other) → IsFirstLacking P (xs ++ ys) p
  left_first p is before = record {
    reason = is.reason;
    is = Contains-append_left xs ys is.reason is.is;
    at = is.at;
    lacks = is.lacks;
    before = λ other in' low. elim (Contains-append_cases xs ys other in') [
      | inl left ↦ is.before other left low
      | inr right ↦ before other right low
    ];
  }

  right_first : (p : ℕ) → IsFirstLacking P ys p → ((other : Reason) → Contains xs other → other.place < p → P other) → IsFirstLacking P (xs ++ ys) p
  right_first p is before = record {
    reason = is.reason;
    is = Contains-append_right xs ys is.reason is.is;
    at = is.at;
    lacks = is.lacks;
    before = λ other in' low. elim (Contains-append_cases xs ys other in') [
      | inl left ↦ before other left low
      | inr right ↦ is.before other right low
    ];
  }

  -- the first of two lists is the sooner of theirs
  pub first_joined : (one other first : Option ℕ) → IsFirstWithout P xs one → IsFirstWithout P ys other → IsSooner one other first → IsFirstWithout P (xs ++ ys) first
  first_joined None None first is_one is_other same = subst (IsFirstWithout P (xs ++ ys)) (sym same) (λ r in'. elim (Contains-append_cases xs ys r in') [
    | inl left ↦ is_one r left
    | inr right ↦ is_other r right
  ])
  first_joined None (Some q) first is_one is_other same =
      subst (IsFirstWithout P (xs ++ ys)) (sym same) (right_first q is_other (λ r in' low. is_one r in'))
  first_joined (Some p) None first is_one is_other same =
      subst (IsFirstWithout P (xs ++ ys)) (sym same) (left_first p is_one (λ r in' low. is_other r in'))
  first_joined (Some p) (Some q) first is_one is_other same = subst (IsFirstWithout P (xs ++ ys)) (sym same) (elim (cases_lt q p) [
    | inl less ↦
        let e : q ≡ min p q = omega arith in
        subst (IsFirstLacking P (xs ++ ys)) e (right_first q is_other (λ r in' low. is_one.before r in' (omega arith)))
    | inr le ↦
        let e : p ≡ min p q = omega arith in
        subst (IsFirstLacking P (xs ++ ys)) e (left_first p is_one (λ r in' low. is_other.before r in' (omega arith)))
  ])

-- a node that is taken out of a row
cleared : (row : List Bool) (node : ℕ) → node < length row → ¬ Has (slice_set row node false) node
cleared row node low has = false≢true (sym (get_or-set_same row node false false low) ∙ has)

still_lacks : (row : List Bool) (node k : ℕ) → node < length row → ¬ Has row k → ¬ Has (slice_set row node false) k
still_lacks row node k low lacks has = elim (cases_eq k node) [
  | inl same ↦ cleared row node low (subst (Has (slice_set row node false)) same has)
  | inr other ↦ lacks (sym (get_or-set_other row node k false false other) ∙ has)
]

pub no_ends_more : (reasons : List Reason) (reason : Reason) (row : List Bool) → reason.to.0 < length row → HasNoEnds reasons row
    → HasNoEnds (reasons ++ (reason ∷ [])) (slice_set row reason.to.0 false)
no_ends_more reasons reason row low none other in' = elim (Contains-push_cases reasons reason other in') [
  | inl before ↦ still_lacks row reason.to.0 other.to.0 low (none other before)
  | inr same ↦ subst (λ (r : Reason). ¬ Has (slice_set row reason.to.0 false) r.to.0) same (cleared row reason.to.0 low)
]

-- what stands after a place, up to another
module _ {X : Type 0} (xs : List X) (a b : ℕ) (within : b ≤ length xs) where
  pub range_joined : a ≤ b → take b xs ≡ take a xs ++ slice_range xs a b
  range_joined up =
      let e : a + (b - a) ≡ b = omega arith in
      subst (λ k. take k xs ≡ take a xs ++ slice_range xs a b) e (take-add a (b - a) xs)

  range_at : (k : ℕ) (d : X) → k < length (slice_range xs a b) → (a + k < b) × (get_or (slice_range xs a b) k d ≡ get_or xs (a + k) d)
  range_at k d low =
      let size = length-take (b - a) (drop a xs) in
      let few : k < b - a = omega arith in
      (omega arith, get_or-take (b - a) (drop a xs) k d few ∙ get_or-drop a xs k d)

  pub in_range : (x : X) → Contains (slice_range xs a b) x → Contains xs x
  in_range x in' =
      let at = range_at in'.0 x in'.1 in
      let low = at.0 in
      (a + in'.0, omega arith, sym at.1 ∙ in'.2)

  pub all_in_range : (P : X → Type 0) → AllWithin P xs a b → (x : X) → Contains (slice_range xs a b) x → P x
  all_in_range P all x in' =
      let at = range_at in'.0 x in'.1 in
      subst P (sym at.1 ∙ in'.2) (all (a + in'.0) x (omega arith) at.0)

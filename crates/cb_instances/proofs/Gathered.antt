-- What is gathered from a list into a set or a map.
use Rattle.std.proofs.Common.{◌≡◌, ◌↔◌, List, [], ◌∷◌, true, Some, refl, sym, ap, subst, ◌∙◌, inl, inr, arith}
use Rattle.std.specs.List.{Contains, flat_map}
use Rattle.std.specs.FinMap as fin_map
use Rattle.std.specs.FinSet as set
use Rattle.std.specs.Cmp.{IsTotalOrder, eq_by_cmp_equiv}
use Rattle.std.specs.Ordering.{eq_by_cmp}
use Rattle.std.specs.declared.cmp.Ordering.{Ordering}
use Rattle.std.proofs.lemmas.Bool.{cases_Bool}
use Rattle.std.proofs.lemmas.List.Elements.{Contains-append_left, Contains-append_right, Contains-append_cases}
use Rattle.std.proofs.lemmas.Map.Views.{list_any-from_Contains, Contains-from_any, tells_apart}
use Rattle.cb_model.proofs.Rising.{contains_cases, contains_head, contains_tail, nothing_in_empty}
use Rattle.cb_network.proofs.Sets.{tied, tied_same}

module _ {X Y : Type 0} (f : X → List Y) where
  pub from_flat : (xs : List X) (y : Y) → Contains (flat_map f xs) y → (x : X) × Contains xs x × Contains (f x) y
  from_flat [] y has = absurd (nothing_in_empty y has)
  from_flat (x ∷ xs) y has = elim (Contains-append_cases (f x) (flat_map f xs) y has) [
    | inl here ↦ (x, contains_head x xs, here)
    | inr later ↦ let rest = from_flat xs y later in (rest.0, contains_tail x xs rest.0 rest.1, rest.2)
  ]

  pub to_flat : (xs : List X) (x : X) (y : Y) → Contains xs x → Contains (f x) y → Contains (flat_map f xs) y
  to_flat [] x y at has = absurd (nothing_in_empty x at)
  to_flat (z ∷ xs) x y at has = elim (contains_cases z xs x at) [
    | inl e ↦ Contains-append_left (f z) (flat_map f xs) y (subst (λ w. Contains (f w) y) (sym e) has)
    | inr later ↦ Contains-append_right (f z) (flat_map f xs) y (to_flat xs x y later has)
  ]

-- the one item of a list
pub only : {X : Type 0} (x y : X) → Contains (x ∷ []) y → x ≡ y
only x y has = elim (contains_cases x [] y has) [ inl e ↦ e | inr none ↦ absurd (nothing_in_empty y none) ]

module _ {K : Type 0} {R : K → K → Ordering} (total : IsTotalOrder R) (exact : set.IsAntisymmetric R) where
  -- a set of a list has what the list has
  pub in_set : (ks : List K) (q : K) → (set.contains (set.from_list {R = R} ks) q ≡ true) ↔ Contains ks q
  in_set ks q =
      let e = set.contains-from_list total ks q in
      (λ h. Contains-from_any (tells_apart exact) q ks (sym e ∙ h), λ h. e ∙ list_any-from_Contains (eq_by_cmp_equiv total) q ks h)

  module _ {V : Type 0} where
    find_listed : (es : List (K × V)) (q : K) (v : V) → fin_map.find R q es ≡ Some v → Contains es (q, v)
    find_listed [] q v is = absurd (cc)
    find_listed (e ∷ es) q v is = elim (cases_Bool (eq_by_cmp R q e.0)) [
      | inl same ↦
          let found : Some e.1 ≡ Some v = rw same at is in
          let key : e.0 ≡ q = sym (tied total exact q e.0 same) in
          let value : e.1 ≡ v = cc in
          (0, omega arith, λ i. (key i, value i))
      | inr other ↦ let found : fin_map.find R q es ≡ Some v = rw other at is in contains_tail e es (q, v) (find_listed es q v found)
    ]

    listed_found : (es : List (K × V)) (q : K) (v : V) → Contains es (q, v) → (w : V) × (fin_map.find R q es ≡ Some w)
    listed_found [] q v has = absurd (nothing_in_empty (q, v) has)
    listed_found (e ∷ es) q v has = elim (cases_Bool (eq_by_cmp R q e.0)) [
      | inl same ↦ (e.1, rw same refl)
      | inr other ↦ elim (contains_cases e es (q, v) has) [
        | inl is ↦ let same = tied_same total exact q e.0 (sym (ap (λ (p : K × V). p.0) is)) in absurd (cc)
        | inr later ↦ let rest = listed_found es q v later in (rest.0, rw other rest.1)
      ]
    ]

    -- a map of a list in which a key has one value has what the list has
    pub in_map : (es : List (K × V)) → ((q : K) (v w : V) → Contains es (q, v) → Contains es (q, w) → v ≡ w)
        → (q : K) (v : V) → (fin_map.get (fin_map.from_entries {R = R} es) q ≡ Some v) ↔ Contains es (q, v)
    in_map es one q v =
        let e = fin_map.get-from_entries total es q in (
          λ h. find_listed es q v (sym e ∙ h),
          λ h.
              let found = listed_found es q v h in
              let same = one q found.0 v (find_listed es q found.0 found.1) h in
              e ∙ (found.1 ∙ ap Some same),
        )

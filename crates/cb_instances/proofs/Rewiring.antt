-- Slots after one list of one instance takes a step.
use Rattle.std.proofs.Common.{◌≡◌, ◌≢◌, ◌<◌, ◌↔◌, ◌⊎◌, ℕ, zero, suc, List, [], ◌∷◌, ◌++◌, length, map, get_or, set, Option, Some, None, refl, sym, ap, subst, ◌∙◌, inl, inr, arith, get_or-set_same, get_or-set_other}
use Rattle.std.specs.List.{Contains}
use Rattle.std.proofs.lemmas.List.Elements.{Contains-append_left, Contains-push, Contains-push_cases}
use Rattle.std.proofs.lemmas.List.Quantifiers.{all_pairs_push}
use Rattle.cb_model.specs.declared.id.RelId.{RelId}
use Rattle.cb_network.proofs.Decided.{Decision, decide_number, decide_same, decide_both}
use Rattle.cb_instances.specs.Items.{Gains, Loses}
use Rattle.cb_instances.specs.declared.id.InstanceId.{InstanceId}
use Rattle.cb_instances.specs.declared.instance.Instance.{Instance}
use Rattle.cb_instances.specs.Joined.{head_in, SameHeads, Rewires, Stays, HasSpareAt, AllTidy, SameLinks}
use Rattle.cb_instances.specs.Net.{slot, Once}
use Rattle.cb_instances.specs.Rows.{find_row, items_of, row_of, Puts}
use Rattle.cb_instances.specs.Slots.{head_of, Slots, At, ListsInstance}
use Rattle.cb_instances.specs.Sound.{IsTidy}
use Rattle.cb_instances.proofs.Placing.{decide_id}
use Rattle.cb_instances.proofs.Showing.{one_at, same_inside, slot_within}

pub decide_rel : (r s : RelId) → Decision (r ≡ s)
decide_rel r s = decide_same (r.0 ≡ s.0) (r ≡ s) (λ e i. record { 0 = e i }) (λ e. ap (λ (q : RelId). q.0) e) (decide_number r.0 s.0)

pub headed : (slots : Slots) (i : ℕ) → slot (map head_in slots) i ≡ head_in (slot slots i)
headed [] i = refl
headed (o ∷ slots) zero = refl
headed (o ∷ slots) (suc i) = headed slots i

-- slots of the same heads have an instance at the same numbers
pub same_head : (old new : Slots) → SameHeads old new → (i : InstanceId) (y : Instance) → At new i y → (x : Instance) × At old i x × (head_of y ≡ head_of x)
same_head old new heads i y at = go (slot old i.0) refl
    (sym (headed old i.0) ∙ (ap (λ hs. slot hs i.0) (sym heads) ∙ (headed new i.0 ∙ ap head_in at)))
  where
    go : (o : Option Instance) → slot old i.0 ≡ o → head_in (slot old i.0) ≡ Some (head_of y) → (x : Instance) × At old i x × (head_of y ≡ head_of x)
    go None is e = let f : None ≡ Some (head_of y) = ap head_in (sym is) ∙ e in absurd (cc)
    go (Some x) is e = (x, is, same_inside (head_of y) (head_of x) (sym e ∙ ap head_in is))

set_heads : (slots : Slots) (i : ℕ) (x y : Instance) → slot slots i ≡ Some x → head_of y ≡ head_of x → map head_in (set slots i (Some y)) ≡ map head_in slots
set_heads [] i x y at e = refl
set_heads (o ∷ slots) zero x y at e = ap (λ h. h ∷ map head_in slots) (ap Some e ∙ ap head_in (sym at))
set_heads (o ∷ slots) (suc i) x y at e = ap (λ hs. head_in o ∷ hs) (set_heads slots i x y at e)

-- one instance is written in its place
pub rewired : (old : Slots) (at : InstanceId) (rel : RelId) (Step : List InstanceId → List InstanceId → Type 0) (x y : Instance) → At old at x → head_of y ≡ head_of x
    → Puts x.links.rows.items y.links.rows.items rel (row_of y.links.rows.items rel)
    → Step (row_of x.links.rows.items rel) (row_of y.links.rows.items rel)
    → Rewires old (set old at.0 (Some y)) at rel Step
rewired old at rel Step x y is head puts step = record {
  heads = set_heads old at.0 x y is head;
  others = λ i ne. get_or-set_other old at.0 i.0 (Some y) None (λ e. ne (λ k. record { 0 = e k }));
  this = λ z at_z.
      let same : x ≡ z = one_at old at x z is at_z in
      let P : Instance → Type 0 = λ w. (y : Instance) × At (set old at.0 (Some y)) at y × Puts w.links.rows.items y.links.rows.items rel (row_of y.links.rows.items rel) × Step (row_of w.links.rows.items rel) (row_of y.links.rows.items rel) in
      let now : At (set old at.0 (Some y)) at y = get_or-set_same old at.0 (Some y) None (slot_within old at.0 x is) in (
        y,
        now,
        subst (λ (w : Instance). Puts w.links.rows.items y.links.rows.items rel (row_of y.links.rows.items rel)) same puts,
        subst (λ (w : Instance). Step (row_of w.links.rows.items rel) (row_of y.links.rows.items rel)) same step,
      );
}

-- nothing is written where there is nothing
pub rewired_none : (old : Slots) (at : InstanceId) (rel : RelId) (Step : List InstanceId → List InstanceId → Type 0) → slot old at.0 ≡ None → Rewires old old at rel Step
rewired_none old at rel Step none = record {
  heads = refl;
  others = λ i ne. refl;
  this = λ x is. let e : None ≡ Some x = sym none ∙ is in absurd (cc);
}

module _ (old new : Slots) (at : InstanceId) (rel : RelId) (Step : List InstanceId → List InstanceId → Type 0) (w : Rewires old new at rel Step) where
  -- rows of other instances and of other relations stay
  first_stays : (i : InstanceId) (r : RelId) (x y : Instance) → ((i ≡ at) × (r ≡ rel) → ⊥) → At old i x → At new i y
      → find_row y.links.rows.items r ≡ find_row x.links.rows.items r
  first_stays i r x y apart is now = elim (decide_id i at) [
    | inl e ↦
        let t = w.this x (subst (λ k. At old k x) e is) in
        let same : t.0 ≡ y = one_at new at t.0 y t.1 (subst (λ k. At new k y) e now) in
        ap (λ (z : Instance). find_row z.links.rows.items r) (sym same) ∙ t.2.others r (λ f. apart (e, f))
    | inr ne ↦
        let same : x ≡ y = same_inside x y (sym is ∙ (sym (w.others i ne) ∙ now)) in
        ap (λ (z : Instance). find_row z.links.rows.items r) (sym same)
  ]

  still_there : (i : InstanceId) (x : Instance) → At old i x → (y : Instance) × At new i y
  still_there i x is = let h = same_head new old (sym w.heads) i x is in (h.0, h.1)

  was_there : (i : InstanceId) (y : Instance) → At new i y → (x : Instance) × At old i x
  was_there i y now = let h = same_head old new w.heads i y now in (h.0, h.1)

  pub lists_elsewhere : (i : InstanceId) (r : RelId) (j : InstanceId) → ((i ≡ at) × (r ≡ rel) → ⊥) → ListsInstance new i r j ↔ ListsInstance old i r j
  lists_elsewhere i r j apart = (
    λ l.
        let x = was_there i l.lister l.is in
        let same = first_stays i r x.0 l.lister apart x.1 l.is in
        record { lister = x.0; is = x.1; listed = subst (λ o. Contains (items_of o) j) same l.listed },
    λ l.
        let y = still_there i l.lister l.is in
        let same = first_stays i r l.lister y.0 apart l.is y.1 in
        record { lister = y.0; is = y.1; listed = subst (λ o. Contains (items_of o) j) (sym same) l.listed },
  )

  pub spare_elsewhere : (i : InstanceId) (r : RelId) → ((i ≡ at) × (r ≡ rel) → ⊥) → HasSpareAt old i r → HasSpareAt new i r
  spare_elsewhere i r apart capacity y now =
      let x = was_there i y now in
      let same = first_stays i r x.0 y apart x.1 now in
      let has = capacity x.0 x.1 in
      (has.0, same ∙ has.1, has.2)

  -- what the list had and has
  module _ (x : Instance) (is : At old at x) where
    pub listed_before : (j : InstanceId) → ListsInstance old at rel j ↔ Contains (row_of x.links.rows.items rel) j
    listed_before j = (
      λ l. subst (λ (z : Instance). Contains (row_of z.links.rows.items rel) j) (one_at old at l.lister x l.is is) l.listed,
      λ has. record { lister = x; is = is; listed = has },
    )

    pub listed_now : (j : InstanceId) → ListsInstance new at rel j ↔ Contains (row_of (w.this x is).0.links.rows.items rel) j
    listed_now j =
        let t = w.this x is in (
          λ l. subst (λ (z : Instance). Contains (row_of z.links.rows.items rel) j) (one_at new at l.lister t.0 l.is t.1) l.listed,
          λ has. record { lister = t.0; is = t.1; listed = has },
        )

  pub rewired_tidy : ((x : Instance) (y : Instance) → At old at x → Step (row_of x.links.rows.items rel) (row_of y.links.rows.items rel) → Once (row_of x.links.rows.items rel) → Once (row_of y.links.rows.items rel))
      → AllTidy old → AllTidy new
  rewired_tidy once tidy i y now =
      let x = was_there i y now in
      let before = tidy i x.0 x.1 in
      elim (decide_id i at) [
        | inl e ↦
            let at_x : At old at x.0 = subst (λ k. At old k x.0) e x.1 in
            let t = w.this x.0 at_x in
            let same : t.0 ≡ y = one_at new at t.0 y t.1 (subst (λ k. At new k y) e now) in
            subst (λ (z : Instance). IsTidy z.links.rows.items) same (record {
              apart = t.2.apart before.apart;
              once = λ r. elim (decide_rel r rel) [
                | inl f ↦ subst (λ q. Once (row_of t.0.links.rows.items q)) (sym f) (once x.0 t.0 at_x t.3 (before.once rel))
                | inr ne ↦ subst (λ o. Once (items_of o)) (sym (t.2.others r ne)) (before.once r)
              ];
            })
        | inr ne ↦
            let same : x.0 ≡ y = same_inside x.0 y (sym x.1 ∙ (sym (w.others i ne) ∙ now)) in
            subst (λ (z : Instance). IsTidy z.links.rows.items) same before
      ]

pub stays_links : (old new : Slots) (at : InstanceId) (rel : RelId) → Rewires old new at rel Stays → SameLinks old new
stays_links old new at rel w = record {
  heads = w.heads;
  lists = λ i r j. elim (decide_both (i ≡ at) (r ≡ rel) (decide_id i at) (decide_rel r rel)) [
    | inl here ↦ subst (λ k. ListsInstance new k r j ↔ ListsInstance old k r j) (sym here.0) (subst (λ q. ListsInstance new at q j ↔ ListsInstance old at q j) (sym here.1) (same j))
    | inr apart ↦ lists_elsewhere old new at rel Stays w i r j apart
  ];
  tidy = rewired_tidy old new at rel Stays w (λ x y is step once. subst Once (sym step) once);
}
  where
    same : (j : InstanceId) → ListsInstance new at rel j ↔ ListsInstance old at rel j
    same j = (
      λ l.
          let x = same_head old new w.heads at l.lister l.is in
          let t = w.this x.0 x.1 in
          (listed_before old new at rel Stays w x.0 x.1 j).1 (subst (λ row. Contains row j) t.3 ((listed_now old new at rel Stays w x.0 x.1 j).0 l)),
      λ l.
          let t = w.this l.lister l.is in
          (listed_now old new at rel Stays w l.lister l.is j).1 (subst (λ row. Contains row j) (sym t.3) l.listed),
    )

pub gains_lists : (old new : Slots) (at : InstanceId) (rel : RelId) (to : InstanceId) (x : Instance) → At old at x → Rewires old new at rel (Gains to)
    → (i : InstanceId) (r : RelId) (j : InstanceId) → ListsInstance new i r j ↔ (ListsInstance old i r j ⊎ ((i ≡ at) × (r ≡ rel) × (j ≡ to)))
gains_lists old new at rel to x is w i r j = elim (decide_both (i ≡ at) (r ≡ rel) (decide_id i at) (decide_rel r rel)) [
  | inl here ↦ (
    λ l.
        let l' : ListsInstance new at rel j = subst (λ k. ListsInstance new k rel j) here.0 (subst (λ q. ListsInstance new i q j) here.1 l) in
        let has : Contains (row_of x.links.rows.items rel ++ to ∷ []) j = subst (λ row. Contains row j) (w.this x is).3 ((listed_now old new at rel (Gains to) w x is j).0 l') in
        elim (Contains-push_cases (row_of x.links.rows.items rel) to j has) [
          | inl was ↦ inl (subst (λ k. ListsInstance old k r j) (sym here.0) (subst (λ q. ListsInstance old at q j) (sym here.1) ((listed_before old new at rel (Gains to) w x is j).1 was)))
          | inr e ↦ inr (here.0, here.1, sym e)
        ],
    λ s.
        let has : Contains (row_of x.links.rows.items rel ++ to ∷ []) j = elim s [
          | inl l ↦ Contains-append_left (row_of x.links.rows.items rel) (to ∷ []) j ((listed_before old new at rel (Gains to) w x is j).0 (subst (λ k. ListsInstance old k rel j) here.0 (subst (λ q. ListsInstance old i q j) here.1 l)))
          | inr e ↦ subst (Contains (row_of x.links.rows.items rel ++ to ∷ [])) (sym e.2) (Contains-push (row_of x.links.rows.items rel) to)
        ] in
        let l : ListsInstance new at rel j = (listed_now old new at rel (Gains to) w x is j).1 (subst (λ row. Contains row j) (sym (w.this x is).3) has) in
        subst (λ k. ListsInstance new k r j) (sym here.0) (subst (λ q. ListsInstance new at q j) (sym here.1) l),
  )
  | inr apart ↦
      let same = lists_elsewhere old new at rel (Gains to) w i r j apart in
      (λ l. inl (same.0 l), λ s. elim s [ inl l ↦ same.1 l | inr e ↦ absurd (apart (e.0, e.1)) ])
]

pub once_more : {X : Type 0} (xs : List X) (y : X) → Once xs → ¬ Contains xs y → Once (xs ++ y ∷ [])
once_more xs y once none = all_pairs_push (λ a b. a ≢ b) xs y once (λ k d lt e. none (k, lt, get_or_same xs k d y lt e))
  where
    get_or_same : {X : Type 0} (xs : List X) (k : ℕ) (d y : X) → k < length xs → get_or xs k d ≡ y → get_or xs k y ≡ y
    get_or_same [] k d y lt e = absurd (omega arith)
    get_or_same (x ∷ xs) zero d y lt e = e
    get_or_same (x ∷ xs) (suc k) d y lt e = get_or_same xs k d y (omega arith) e

pub gains_tidy : (old new : Slots) (at : InstanceId) (rel : RelId) (to : InstanceId) → Rewires old new at rel (Gains to) → ¬ ListsInstance old at rel to → AllTidy old → AllTidy new
gains_tidy old new at rel to w none = rewired_tidy old new at rel (Gains to) w (λ x y is step once.
    subst Once (sym step) (once_more (row_of x.links.rows.items rel) to once (λ has. none (record { lister = x; is = is; listed = has }))))

pub loses_tidy : (old new : Slots) (at : InstanceId) (rel : RelId) (to : InstanceId) → Rewires old new at rel (Loses to) → AllTidy old → AllTidy new
loses_tidy old new at rel to w = rewired_tidy old new at rel (Loses to) w (λ x y is step once. step.once once)

pub loses_lists : (old new : Slots) (at : InstanceId) (rel : RelId) (to : InstanceId) → AllTidy old → Rewires old new at rel (Loses to)
    → (i : InstanceId) (r : RelId) (j : InstanceId) → ListsInstance new i r j ↔ (ListsInstance old i r j × ((i ≡ at) × (r ≡ rel) × (j ≡ to) → ⊥))
loses_lists old new at rel to tidy w i r j = elim (decide_both (i ≡ at) (r ≡ rel) (decide_id i at) (decide_rel r rel)) [
  | inl here ↦ (
    λ l.
        let l' : ListsInstance new at rel j = subst (λ k. ListsInstance new k rel j) here.0 (subst (λ q. ListsInstance new i q j) here.1 l) in
        let x = same_head old new w.heads at l'.lister l'.is in
        let t = w.this x.0 x.1 in
        let has = (listed_now old new at rel (Loses to) w x.0 x.1 j).0 l' in
        let other : j ≢ to = λ e. t.3.gone ((tidy at x.0 x.1).once rel) (subst (Contains (row_of t.0.links.rows.items rel)) e has) in
        let was = (listed_before old new at rel (Loses to) w x.0 x.1 j).1 ((t.3.others j other).0 has) in
        (subst (λ k. ListsInstance old k r j) (sym here.0) (subst (λ q. ListsInstance old at q j) (sym here.1) was), λ e. other e.2),
    λ s.
        let l : ListsInstance old at rel j = subst (λ k. ListsInstance old k rel j) here.0 (subst (λ q. ListsInstance old i q j) here.1 s.0) in
        let t = w.this l.lister l.is in
        let now = (listed_now old new at rel (Loses to) w l.lister l.is j).1 ((t.3.others j (λ e. s.1 (here.0, here.1, e))).1 l.listed) in
        subst (λ k. ListsInstance new k r j) (sym here.0) (subst (λ q. ListsInstance new at q j) (sym here.1) now),
  )
  | inr apart ↦
      let same = lists_elsewhere old new at rel (Loses to) w i r j apart in
      (λ l. (same.0 l, λ e. apart (e.0, e.1)), λ s. same.1 s.0)
]

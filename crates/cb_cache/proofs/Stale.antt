-- Rows that are taken back, one number after the other.
use Rattle.std.proofs.Common.{◌≡◌, ◌≢◌, ◌↔◌, ◌⊎◌, ℕ, ◌+◌, ◌<◌, ◌≤◌, List, [], ◌∷◌, ◌++◌, Bool, true, Option, Some, None, slice_get, slice_set, slice_index_or, refl, sym, ap, subst, ◌∙◌, inl, inr, arith}
use Rattle.std.specs.List.{Contains}
use Rattle.std.proofs.lemmas.Bool.{cases_eq, cases_order}
use Rattle.std.proofs.lemmas.List.Elements.{Contains-append_left, Contains-push, Contains-push_cases, Contains-get_or}
use Rattle.std.proofs.lemmas.List.Quantifiers.{all_pairs_push}
use Rattle.cb_bits.specs.Bits.{Packs}
use Rattle.cb_lanes.specs.Words.{bit_of, HaveCommonBit}
use Rattle.cb_model.proofs.Numbers.{slice_get-set_other, slice_get-set_same}
use Rattle.cb_model.proofs.Rising.{nothing_in_empty}
use Rattle.cb_nodes.specs.declared.id.NodeId.{NodeId}
use Rattle.cb_pool.specs.declared.slot.Slot.{Slot}
use Rattle.cb_pool.specs.Pool.{Pool, SlotHasRow, IsTaken, slot_row}
use Rattle.cb_topo.specs.Numbered.{Numbered, IsLiveNode}
use Rattle.cb_graph.specs.Edges.{number}
use Rattle.cb_cache.specs.Extended.{HasTouched}
use Rattle.cb_cache.specs.Kept.{OwnSlots}
use Rattle.cb_cache.specs.Numbers.{AreOnce}
use Rattle.cb_cache.specs.Reached.{HasSlot}
use Rattle.cb_cache.specs.Stale.{IsClean, IsStale, AreTaken, LeavesRow, FreesSlot, TakesBackOne, TakesBack}
use Rattle.cb_cache.proofs.Pooled.{was_taken}
use Rattle.cb_cache.proofs.Slots.{one_slot}
use Rattle.cb_cache.proofs.Written.{packed_bit}

-- a row of words and a row of marks have a node in common where their words have a bit in common
module _ (touched : List Bool) (marks words row : List ℕ) (packs : Packs touched marks) (is : words ≡ row) where
  pub touched_of : HaveCommonBit words marks → HasTouched touched row
  touched_of (k, bit, mark) = (k, sym (packed_bit touched marks packs k) ∙ mark, subst (λ (ws : List ℕ). bit_of ws k ≡ true) is bit)

  pub common_of : HasTouched touched row → HaveCommonBit words marks
  common_of (k, has, bit) = (k, subst (λ (ws : List ℕ). bit_of ws k ≡ true) (sym is) bit, packed_bit touched marks packs k ∙ has)

-- rows of the numbers before a place are taken back
pub record BackUpTo (n : Numbered) (touched : List Bool) (place : ℕ) (first : List (Option Slot)) (p : Pool) (slots : List (Option Slot)) (new : Pool) (ids : List NodeId) : Type 0 where
  pub had : (i : ℕ) (slot : Slot) → HasSlot slots i slot → HasSlot first i slot
  pub clean : (i : ℕ) (slot : Slot) → HasSlot slots i slot → i < place → IsClean n touched p i slot
  pub rows : (i : ℕ) (slot : Slot) → HasSlot slots i slot → (row : List ℕ) → SlotHasRow new slot row ↔ SlotHasRow p slot row
  pub taken : (slot : Slot) → IsTaken new slot → IsTaken p slot × ((i : ℕ) → HasSlot first i slot → HasSlot slots i slot)
  pub later : (i : ℕ) (slot : Slot) → HasSlot first i slot → place ≤ i → HasSlot slots i slot
  pub live : (i : ℕ) (slot : Slot) → HasSlot first i slot → i < place → IsLiveNode n (number i) → HasSlot slots i slot ⊎ Contains ids (number i)
  pub listed : (id : NodeId) → Contains ids id → (id.0 < place) × IsStale n touched first p id
  pub once : AreOnce ids

pub back_none : (n : Numbered) (touched : List Bool) (slots : List (Option Slot)) (p : Pool) → BackUpTo n touched 0 slots p slots p []
back_none n touched slots p = record {
  had = λ i slot has. has;
  clean = λ i slot has low. absurd (omega arith);
  rows = λ i slot has row. (λ h. h, λ h. h);
  taken = λ slot taken. (taken, λ i has. has);
  later = λ i slot has low. has;
  live = λ i slot has low. absurd (omega arith);
  listed = λ id has. absurd (nothing_in_empty id has);
  once = λ i j d lt low. absurd (omega arith);
}

same_id : (id other : NodeId) → id.0 ≡ other.0 → id ≡ other
same_id id other e = λ k. record { 0 = e k }

-- a row is as it was where another slot is given back
same_row : (p new : Pool) (slot : Slot) (row : List ℕ) → ((r : List ℕ) → SlotHasRow new slot r ↔ SlotHasRow p slot r) → IsTaken new slot → slot_row new slot ≡ slot_row p slot
same_row p new slot row same taken = let h = (same (slot_row new slot)).0 (taken, refl) in h.1

module _ (n : Numbered) (touched : List Bool) (place : ℕ) (id : NodeId) (here : id.0 ≡ place) (first : List (Option Slot)) (p : Pool) (apart : OwnSlots first) (taken : AreTaken first p)
    (slots : List (Option Slot)) (mid : Pool) (ids : List NodeId) (back : BackUpTo n touched place first p slots mid ids) where
  -- between a slot's row now and at first there's no difference
  now_row : (i : ℕ) (slot : Slot) → HasSlot slots i slot → slot_row mid slot ≡ slot_row p slot
  now_row i slot has =
      let own = taken i slot (back.had i slot has) in
      let h = (back.rows i slot has (slot_row p slot)).1 (own, refl) in
      sym h.1

  pub back_left : (new_slots : List (Option Slot)) (new : Pool) (new_ids : List NodeId) → LeavesRow n touched id slots mid new_slots new ids new_ids → BackUpTo n touched (place + 1) first p new_slots new new_ids
  back_left new_slots new new_ids leaves =
      subst (λ (xs : List (Option Slot)). BackUpTo n touched (place + 1) first p xs new new_ids) (sym leaves.same_slots)
      (subst (λ (q : Pool). BackUpTo n touched (place + 1) first p slots q new_ids) (sym leaves.same_pool)
      (subst (λ (xs : List NodeId). BackUpTo n touched (place + 1) first p slots mid xs) (sym leaves.same_ids) record {
        had = back.had;
        clean = λ i slot has low. elim (cases_order i place) [
          | inl same ↦
              let at : HasSlot slots id.0 slot = subst (λ (k : ℕ). HasSlot slots k slot) (same ∙ sym here) has in
              let was = leaves.clean slot at in
              subst (λ (k : ℕ). IsClean n touched p k slot) (here ∙ sym same)
              (was.0, λ has_touched. was.1 (subst (HasTouched touched) (sym (now_row i slot has)) has_touched))
          | inr (inl early) ↦ back.clean i slot has early
          | inr (inr late) ↦ absurd (omega arith)
        ];
        rows = back.rows;
        taken = back.taken;
        later = λ i slot has low. back.later i slot has (omega arith);
        live = λ i slot has low lives. elim (cases_order i place) [
          | inl same ↦ inl (back.later i slot has (omega arith))
          | inr (inl early) ↦ back.live i slot has early lives
          | inr (inr late) ↦ absurd (omega arith)
        ];
        listed = λ other has. let was = back.listed other has in ((let low = was.0 in omega arith), was.1);
        once = back.once;
      }))

  module _ (new_slots : List (Option Slot)) (new : Pool) (new_ids : List NodeId) (gives : FreesSlot n touched id slots mid new_slots new ids new_ids) where
    -- what has a slot still is another number, and had it
    kept : (i : ℕ) (slot : Slot) → HasSlot new_slots i slot → (i ≢ place) × HasSlot slots i slot
    kept i slot has =
        let there : slice_get (slice_set slots id.0 None) i ≡ Some (Some slot) = subst (λ xs. HasSlot xs i slot) gives.emptied has in
        elim (cases_eq i id.0) [
          | inl same ↦
              let e = slice_get-set_same slots id.0 None (Some slot) (subst (λ k. slice_get (slice_set slots id.0 None) k ≡ Some (Some slot)) same there) in
              absurd (cc)
          | inr other ↦ ((λ e. other (e ∙ sym here)), sym (slice_get-set_other slots id.0 i None (λ e. other (sym e))) ∙ there)
        ]

    stays : (i : ℕ) (slot : Slot) → i ≢ place → HasSlot slots i slot → HasSlot new_slots i slot
    stays i slot other has = subst (λ xs. HasSlot xs i slot) (sym gives.emptied) (slice_get-set_other slots id.0 i None (λ e. other (sym e ∙ here)) ∙ has)

    -- it isn't the slot that is given back
    other_slot : (i : ℕ) (slot : Slot) → i ≢ place → HasSlot slots i slot → slot ≢ gives.slot
    other_slot i slot other has same =
        other (apart i id.0 slot (back.had i slot has) (back.had id.0 slot (subst (λ (s : Slot). HasSlot slots id.0 s) (sym same) gives.had)) ∙ here)

    -- neither is one that is still taken, and that is still its number's
    not_given : (slot : Slot) → IsTaken new slot → slot ≢ gives.slot
    not_given slot taken same = gives.free (subst (λ (s : Slot). IsTaken new s) same taken)

    still_taken : (slot : Slot) → IsTaken new slot → IsTaken p slot × ((i : ℕ) → HasSlot first i slot → HasSlot new_slots i slot)
    still_taken slot taken =
        let apart_from = not_given slot taken in
        let was = back.taken slot (was_taken mid new gives.slot slot gives.others apart_from taken) in (
          was.0,
          λ i has.
              let so_far = was.1 i has in
              let given : HasSlot slots place gives.slot = subst (λ (k : ℕ). HasSlot slots k gives.slot) here gives.had in
              stays i slot (λ same. apart_from (one_slot slots place slot gives.slot (subst (λ (k : ℕ). HasSlot slots k slot) same so_far) given)) so_far,
        )

    stale : IsLiveNode n id → IsStale n touched first p id
    stale live = (gives.slot, back.had id.0 gives.slot gives.had, live, subst (HasTouched touched) (now_row id.0 gives.slot gives.had) (gives.stale live))

    before : (other : NodeId) → Contains new_ids other → Contains ids other ⊎ ((other ≡ id) × IsLiveNode n id)
    before other has = elim gives.lists [
      | inl (live, is) ↦ elim (Contains-push_cases ids id other (subst (λ (xs : List NodeId). Contains xs other) is has)) [
        | inl early ↦ inl early
        | inr same ↦ inr (sym same, live)
      ]
      | inr (gone, is) ↦ inl (subst (λ (xs : List NodeId). Contains xs other) is has)
    ]

    after : (other : NodeId) → Contains ids other → Contains new_ids other
    after other has = elim gives.lists [
      | inl (live, is) ↦ subst (λ (xs : List NodeId). Contains xs other) (sym is) (Contains-append_left ids (id ∷ []) other has)
      | inr (gone, is) ↦ subst (λ (xs : List NodeId). Contains xs other) (sym is) has
    ]

    itself : IsLiveNode n id → Contains new_ids id
    itself live = elim gives.lists [
      | inl (_, is) ↦ subst (λ (xs : List NodeId). Contains xs id) (sym is) (Contains-push ids id)
      | inr (gone, is) ↦ absurd (gone live)
    ]

    once_more : AreOnce (ids ++ id ∷ [])
    once_more = all_pairs_push (λ a b. a ≢ b) ids id back.once (λ i d lt same.
        let low = (back.listed (slice_index_or ids i d) (Contains-get_or ids i d lt)).0 in
        let number = ap (λ (j : NodeId). j.0) same in
        omega arith)

    once_now : AreOnce new_ids
    once_now = elim gives.lists [
      | inl (live, is) ↦ subst AreOnce (sym is) once_more
      | inr (gone, is) ↦ subst AreOnce (sym is) back.once
    ]

    pub back_given : BackUpTo n touched (place + 1) first p new_slots new new_ids
    back_given = record {
      had = λ i slot has. back.had i slot (kept i slot has).1;
      clean = λ i slot has low.
          let (other, was) = kept i slot has in
          elim (cases_order i place) [
            | inl same ↦ absurd (other same)
            | inr (inl early) ↦ back.clean i slot was early
            | inr (inr late) ↦ absurd (omega arith)
          ];
      rows = λ i slot has row.
          let (other, was) = kept i slot has in
          let step = gives.others slot (other_slot i slot other was) row in
          let so_far = back.rows i slot was row in
          (λ h. so_far.0 (step.0 h), λ h. step.1 (so_far.1 h));
      taken = still_taken;
      later = λ i slot has low. stays i slot (λ e. (let same = e in omega arith)) (back.later i slot has (omega arith));
      live = λ i slot has low lives. elim (cases_order i place) [
        | inl same ↦
            let is : number i ≡ id = same_id (number i) id (same ∙ sym here) in
            inr (subst (Contains new_ids) (sym is) (itself (subst (IsLiveNode n) is lives)))
        | inr (inl early) ↦ elim (back.live i slot has early lives) [
          | inl still ↦ inl (stays i slot (λ e. (let same = e in omega arith)) still)
          | inr among ↦ inr (after (number i) among)
        ]
        | inr (inr late) ↦ absurd (omega arith)
      ];
      listed = λ other has. elim (before other has) [
        | inl early ↦ let was = back.listed other early in ((let low = was.0 in omega arith), was.1)
        | inr (same, live) ↦ (
          (let number = ap (λ (j : NodeId). j.0) same in omega arith),
          subst (IsStale n touched first p) (sym same) (stale live),
        )
      ];
      once = once_now;
    }

  pub back_more : (new_slots : List (Option Slot)) (new : Pool) (new_ids : List NodeId) → TakesBackOne n touched id slots mid new_slots new ids new_ids
      → BackUpTo n touched (place + 1) first p new_slots new new_ids
  back_more new_slots new new_ids one = elim one [ inl leaves ↦ back_left new_slots new new_ids leaves | inr gives ↦ back_given new_slots new new_ids gives ]

-- once all numbers are gone through
module _ (n : Numbered) (touched : List Bool) (place : ℕ) (first : List (Option Slot)) (p : Pool) (slots : List (Option Slot)) (new : Pool) (ids : List NodeId)
    (back : BackUpTo n touched place first p slots new ids) (all : (i : ℕ) (slot : Slot) → HasSlot first i slot → i < place) where
  pub all_back : TakesBack n touched first p slots new ids
  all_back = record {
    clean = λ i slot has. let had = back.had i slot has in (had, back.clean i slot has (all i slot had));
    rows = λ i slot has row own. (back.rows i slot has row).1 own;
    taken = back.taken;
    live = λ i slot has lives. back.live i slot has (all i slot has) lives;
    listed = λ id. (
      λ has. (back.listed id has).1,
      λ (slot, has, lives, marked). elim (back.live id.0 slot has (all id.0 slot has) lives) [
        | inl still ↦ absurd ((back.clean id.0 slot still (all id.0 slot has)).1 marked)
        | inr among ↦ among
      ],
    );
    once = back.once;
  }

-- Rows that are filled one after the other.
use Rattle.std.proofs.Common.{◌≡◌, ◌≢◌, ◌⊎◌, ℕ, ◌+◌, ◌<◌, ◌≤◌, List, [], ◌∷◌, ◌++◌, length, sum, Option, Some, slice_get, slice_set, refl, sym, ap, subst, ◌∙◌, inl, inr, arith}
use Rattle.std.specs.List.{Contains}
use Rattle.std.proofs.lemmas.Bool.{cases_eq}
use Rattle.std.proofs.lemmas.List.Elements.{Contains-push, Contains-append_left, Contains-push_cases}
use Rattle.std.proofs.lemmas.List.Sums.{sum_by_push}
use Rattle.cb_model.proofs.Rising.{nothing_in_empty}
use Rattle.cb_model.proofs.Numbers.{slice_get-set_other, slice_get-set_same, slice_get-set_here, zip_push}
use Rattle.cb_nodes.specs.declared.id.NodeId.{NodeId}
use Rattle.cb_pool.specs.declared.slot.Slot.{Slot}
use Rattle.cb_pool.specs.Pool.{Pool, IsTaken}
use Rattle.cb_topo.specs.Numbered.{Numbered}
use Rattle.cb_graph.specs.Edges.{number}
use Rattle.cb_cache.specs.Cached.{IsRowOf, AreRows}
use Rattle.cb_cache.specs.Kept.{OwnSlots}
use Rattle.cb_cache.specs.Reached.{HasSlot}
use Rattle.cb_cache.specs.Filled.{AddsRow, AddsRows, HasSize, CostAtMost}
use Rattle.cb_cache.proofs.Pooled.{was_taken}

same_slot : (a b : Slot) → a.0 ≡ b.0 → a ≡ b
same_slot a b e = λ k. record { 0 = e k }

-- a row that stands in another slot stays
row_kept : (n : Numbered) (i j : ℕ) (slots new_slots : List (Option Slot)) (p new : Pool) (adds : AddsRow n j slots new_slots p new) (slot : Slot)
    → IsRowOf n i p slot → IsRowOf n i new slot
row_kept n i j slots new_slots p new adds slot (words, has, reached) =
    (words, (adds.others slot (λ same. adds.free (subst (λ (s : Slot). IsTaken p s) same has.0)) words).1 has, reached)

-- before a row is added
pub none_added : (n : Numbered) (slots : List (Option Slot)) (p : Pool) → AreRows n slots p → OwnSlots slots → AddsRows n [] slots slots p p
none_added n slots p rows apart = record {
  rows = rows;
  kept = λ i slot has. has;
  only = λ i slot has. inl has;
  all = λ id has. absurd (nothing_in_empty id has);
  apart = apart;
  taken = λ slot taken. inl taken;
}

module _ (n : Numbered) (ids : List NodeId) (id : NodeId) (first slots new_slots : List (Option Slot)) (first_pool p new : Pool) (have : AddsRows n ids first slots first_pool p)
    (fresh : (slot : Slot) → ¬ HasSlot first id.0 slot) (once : ¬ Contains ids id) (low : id.0 < length slots) (adds : AddsRow n id.0 slots new_slots p new) where
  -- what a number has now, it has newly or had
  slot_cases : (i : ℕ) (slot : Slot) → HasSlot new_slots i slot → ((i ≡ id.0) × (slot ≡ adds.slot)) ⊎ ((i ≢ id.0) × HasSlot slots i slot)
  slot_cases i slot has =
      let there : slice_get (slice_set slots id.0 (Some adds.slot)) i ≡ Some (Some slot) = subst (λ xs. HasSlot xs i slot) adds.listed has in
      elim (cases_eq i id.0) [
        | inl same ↦
            let e = slice_get-set_same slots id.0 (Some adds.slot) (Some slot) (subst (λ k. slice_get (slice_set slots id.0 (Some adds.slot)) k ≡ Some (Some slot)) same there) in
            inl (same, (let f : adds.slot ≡ slot = cc in sym f))
        | inr other ↦ inr (other, sym (slice_get-set_other slots id.0 i (Some adds.slot) (λ e. other (sym e))) ∙ there)
      ]

  here : HasSlot new_slots id.0 adds.slot
  here = subst (λ xs. HasSlot xs id.0 adds.slot) (sym adds.listed) (slice_get-set_here slots id.0 (Some adds.slot) low)

  -- an old slot isn't the new one
  old_apart : (i : ℕ) (slot : Slot) → HasSlot slots i slot → slot ≢ adds.slot
  old_apart i slot has same = let row = have.rows i slot has in adds.free (subst (λ (s : Slot). IsTaken p s) same row.1.0)

  stays : (i : ℕ) (slot : Slot) → i ≢ id.0 → HasSlot slots i slot → HasSlot new_slots i slot
  stays i slot other has = subst (λ xs. HasSlot xs i slot) (sym adds.listed) (slice_get-set_other slots id.0 i (Some adds.slot) (λ e. other (sym e)) ∙ has)

  none_yet : (slot : Slot) → ¬ HasSlot slots id.0 slot
  none_yet slot has = elim (have.only id.0 slot has) [ inl old ↦ fresh slot old | inr early ↦ once early ]

  -- what is taken now was taken at first, or is some number's
  taken_cases : (slot : Slot) → IsTaken new slot → IsTaken first_pool slot ⊎ ((i : ℕ) × HasSlot new_slots i slot)
  taken_cases slot taken = elim (cases_eq slot.0 adds.slot.0) [
    | inl same ↦ inr (id.0, subst (λ (s : Slot). HasSlot new_slots id.0 s) (same_slot adds.slot slot (sym same)) here)
    | inr other ↦ elim (have.taken slot (was_taken p new adds.slot slot adds.others (λ e. other (ap (λ (s : Slot). s.0) e)) taken)) [
      | inl early ↦ inl early
      | inr (i, has) ↦ inr (i, stays i slot (λ e. none_yet slot (subst (λ (k : ℕ). HasSlot slots k slot) e has)) has)
    ]
  ]

  pub rows_more : AddsRows n (ids ++ id ∷ []) first new_slots first_pool new
  rows_more = record {
    rows = λ i slot has. elim (slot_cases i slot has) [
      | inl e ↦ subst (λ (k : ℕ). IsRowOf n k new slot) (sym e.0) (subst (λ (s : Slot). IsRowOf n id.0 new s) (sym e.1) adds.row)
      | inr e ↦ row_kept n i id.0 slots new_slots p new adds slot (have.rows i slot e.1)
    ];
    kept = λ i slot has. stays i slot (λ same. fresh slot (subst (λ (k : ℕ). HasSlot first k slot) same has)) (have.kept i slot has);
    only = λ i slot has. elim (slot_cases i slot has) [
      | inl e ↦ inr (subst (λ (k : ℕ). Contains (ids ++ id ∷ []) (number k)) (sym e.0) (Contains-push ids id))
      | inr e ↦ elim (have.only i slot e.1) [
        | inl old ↦ inl old
        | inr early ↦ inr (Contains-append_left ids (id ∷ []) (number i) early)
      ]
    ];
    all = λ other has. elim (cases_eq other.0 id.0) [
      | inl same ↦ (adds.slot, subst (λ (k : ℕ). HasSlot new_slots k adds.slot) (sym same) here)
      | inr apart ↦ elim (Contains-push_cases ids id other has) [
        | inl early ↦
            let old = have.all other early in
            (old.0, stays other.0 old.0 apart old.1)
        | inr last ↦ absurd (apart (ap (λ (z : NodeId). z.0) (sym last)))
      ]
    ];
    apart = λ i j slot has_i has_j. elim (slot_cases i slot has_i) [
      | inl e ↦ elim (slot_cases j slot has_j) [
        | inl f ↦ e.0 ∙ sym f.0
        | inr f ↦ absurd (old_apart j slot f.1 e.1)
      ]
      | inr e ↦ elim (slot_cases j slot has_j) [
        | inl f ↦ absurd (old_apart i slot e.1 f.1)
        | inr f ↦ have.apart i j slot e.1 f.1
      ]
    ];
    taken = taken_cases;
  }

-- no steps for no nodes
pub cost_none : (n : Numbered) (steps : ℕ) → CostAtMost n [] steps steps
cost_none n steps = record { sizes = []; sized = tt; few = let e : sum [] ≡ 0 = refl in omega arith }

pub cost_more : (n : Numbered) (ids : List NodeId) (id : NodeId) (size first now next : ℕ) → CostAtMost n ids first now → HasSize n id size → next ≤ now + size → CostAtMost n (ids ++ id ∷ []) first next
cost_more n ids id size first now next cost sized few = record {
  sizes = cost.sizes ++ size ∷ [];
  sized = zip_push (HasSize n) ids cost.sizes id size cost.sized sized;
  few = let e = sum_by_push (λ k. k) cost.sizes size in let f = cost.few in omega arith;
}

-- Numbers that are taken and given back.
use Rattle.std.proofs.Common.{◌≡◌, ◌≢◌, ◌⊎◌, ℕ, ◌+◌, ◌<◌, ◌≤◌, List, [], ◌∷◌, ◌++◌, length, Option, Some, None, is_some, cond, vec_capacity, sym, ap, subst, ◌∙◌, inl, inr, arith}
use Rattle.std.specs.List.{Contains, count_by, slice_set}
use Rattle.std.proofs.lemmas.List.{get_or-set_same, get_or-set_other, length-set, length_push}
use Rattle.std.proofs.lemmas.List.Elements.{Contains-push, Contains-append_left, Contains-push_cases}
use Rattle.std.proofs.lemmas.List.Sums.{sum_by-set}
use Rattle.cb_instances.proofs.Showing.{slot_within}
use Rattle.cb_instances.specs.Net.{slot, Once}
use Rattle.cb_nodes.specs.declared.id.NodeId.{NodeId}
use Rattle.cb_nodes.specs.declared.node.Node.{Node}
use Rattle.cb_nodes.specs.declared.numbers.Numbers.{Numbers}
use Rattle.cb_nodes.specs.Kept.{AreKept, SameSlots, TakesNumber, GivesBack}
use Rattle.cb_nodes.specs.Table.{Table, HasNumber, count_of}
use Rattle.cb_nodes.proofs.Apart.{pairs_last, pairs_prefix, pairs_more}

pub same_number : (i j : NodeId) → i.0 ≡ j.0 → i ≡ j
same_number i j e = λ k. record { 0 = e k }

-- one number more has a node
pub count_set_some : {X : Type 0} (xs : List (Option X)) (i : ℕ) (x : X) → i < length xs → slot xs i ≡ None → count_by is_some (slice_set xs i (Some x)) ≡ count_by is_some xs + 1
count_set_some {X} xs i x lt none =
    let one : Option X → ℕ = λ o. cond (is_some o) 1 0 in
    let h = sum_by-set one xs i (Some x) None lt in
    let e : one (slot xs i) ≡ 0 = ap one none in
    omega (arith, h, e)

-- one number fewer has a node
pub count_set_none : {X : Type 0} (xs : List (Option X)) (i : ℕ) (x : X) → i < length xs → slot xs i ≡ Some x → count_by is_some (slice_set xs i None) + 1 ≡ count_by is_some xs
count_set_none {X} xs i x lt some =
    let one : Option X → ℕ = λ o. cond (is_some o) 1 0 in
    let h = sum_by-set one xs i None None lt in
    let e : one (slot xs i) ≡ 1 = ap one some in
    omega (arith, h, e)

-- nothing changed but what fits without memory
pub same_slots : (old new : Numbers) → AreKept old → new.slots.items ≡ old.slots.items → new.free.items ≡ old.free.items → vec_capacity old.free ≤ vec_capacity new.free → SameSlots old new
same_slots old new kept slots free capacity = record {
  slots = slots;
  kept = record {
    counted = (ap (λ (xs : List NodeId). length xs + count_of new.slots.items) free ∙ ap (λ (t : Table). length old.free.items + count_of t) slots) ∙ (kept.counted ∙ ap length (sym slots));
    within = λ id has. subst (λ (t : Table). id.0 < length t) (sym slots) (kept.within id (subst (λ xs. Contains xs id) free has));
    vacant = λ id has. subst (λ (t : Table). slot t id.0 ≡ None) (sym slots) (kept.vacant id (subst (λ xs. Contains xs id) free has));
    once = subst Once (sym free) kept.once;
    spare = let n : length new.slots.items ≡ length old.slots.items = ap length slots in omega (arith, kept.spare);
  };
}

-- the last of the free numbers is taken
pub taken_free : (old new : Numbers) (id : NodeId) (node : Node) → AreKept old → old.free.items ≡ new.free.items ++ id ∷ [] → vec_capacity new.free ≡ vec_capacity old.free
    → new.slots.items ≡ slice_set old.slots.items id.0 (Some node) → vec_capacity new.slots ≡ vec_capacity old.slots → TakesNumber old new id node
taken_free old new id node kept popped free_capacity written slots_capacity =
    let has : Contains old.free.items id = subst (λ xs. Contains xs id) (sym popped) (Contains-push new.free.items id) in
    let lt = kept.within id has in
    let none = kept.vacant id has in
    let prefix : (x : NodeId) → Contains new.free.items x → Contains old.free.items x = λ x in_x. subst (λ xs. Contains xs x) (sym popped) (Contains-append_left new.free.items (id ∷ []) x in_x) in
    let once : Once (new.free.items ++ id ∷ []) = subst Once popped kept.once in
    let other : (x : NodeId) → Contains new.free.items x → x.0 ≢ id.0 = λ x in_x e. pairs_last (λ a b. a ≢ b) new.free.items id once x in_x (same_number x id e) in
    let size : length new.slots.items ≡ length old.slots.items = ap length written ∙ length-set old.slots.items id.0 (Some node) in
    let others : (k : ℕ) → k ≢ id.0 → slot new.slots.items k ≡ slot old.slots.items k = λ k ne. ap (λ (t : Table). slot t k) written ∙ get_or-set_other old.slots.items id.0 k (Some node) None ne in
    let count : count_of new.slots.items ≡ count_of old.slots.items + 1 = ap (λ (t : Table). count_of t) written ∙ count_set_some old.slots.items id.0 node lt none in
    let free : length old.free.items ≡ length new.free.items + 1 = ap length popped ∙ length_push new.free.items id in
    record {
      kept = record {
        counted = omega (arith, kept.counted);
        within = λ x in_x. omega (arith, kept.within x (prefix x in_x));
        vacant = λ x in_x. others x.0 (other x in_x) ∙ kept.vacant x (prefix x in_x);
        once = pairs_prefix (λ a b. a ≢ b) new.free.items id once;
        spare = omega (arith, kept.spare);
      };
      same_spare = record { slots = slots_capacity; free = free_capacity };
      free = none;
      this = ap (λ (t : Table). slot t id.0) written ∙ get_or-set_same old.slots.items id.0 (Some node) None lt;
      others = others;
      count = count;
      capacity = omega (arith, kept.counted);
    }

-- a number that had a node is free
pub given_back : (old new : Numbers) (id : NodeId) → AreKept old → HasNumber old.slots.items id → new.slots.items ≡ slice_set old.slots.items id.0 None
    → new.free.items ≡ old.free.items ++ id ∷ [] → vec_capacity new.free ≡ vec_capacity old.free → GivesBack old new id
given_back old new id kept (node, is) written pushed capacity =
    let lt = slot_within old.slots.items id.0 node is in
    let size : length new.slots.items ≡ length old.slots.items = ap length written ∙ length-set old.slots.items id.0 None in
    let this : slot new.slots.items id.0 ≡ None = ap (λ (t : Table). slot t id.0) written ∙ get_or-set_same old.slots.items id.0 None None lt in
    let others : (k : ℕ) → k ≢ id.0 → slot new.slots.items k ≡ slot old.slots.items k = λ k ne. ap (λ (t : Table). slot t k) written ∙ get_or-set_other old.slots.items id.0 k None None ne in
    let count : count_of new.slots.items + 1 ≡ count_of old.slots.items = ap (λ (t : Table). count_of t + 1) written ∙ count_set_none old.slots.items id.0 node lt is in
    let free : length new.free.items ≡ length old.free.items + 1 = ap length pushed ∙ length_push old.free.items id in
    let cases : (x : NodeId) → Contains new.free.items x → Contains old.free.items x ⊎ (id ≡ x) = λ x has. Contains-push_cases old.free.items id x (subst (λ xs. Contains xs x) pushed has) in
    let other : (x : NodeId) → Contains old.free.items x → x ≢ id = λ x has e.
    let none : slot old.slots.items x.0 ≡ None = kept.vacant x has in
    let some : slot old.slots.items x.0 ≡ Some node = ap (λ (y : NodeId). slot old.slots.items y.0) e ∙ is in
    absurd (cc) in
    record {
      kept = record {
        counted = omega (arith, kept.counted);
        within = λ x has. elim (cases x has) [
          | inl was ↦ omega (arith, kept.within x was)
          | inr e ↦ let same : id.0 ≡ x.0 = ap (λ (y : NodeId). y.0) e in omega arith
        ];
        vacant = λ x has. elim (cases x has) [
          | inl was ↦ others x.0 (λ e. other x was (same_number x id e)) ∙ kept.vacant x was
          | inr e ↦ ap (λ (y : NodeId). slot new.slots.items y.0) (sym e) ∙ this
        ];
        once = subst Once (sym pushed) (pairs_more (λ a b. a ≢ b) old.free.items id kept.once other);
        spare = omega (arith, kept.spare);
      };
      this = this;
      others = others;
      count = count;
      capacity = size;
    }

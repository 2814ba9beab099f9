-- Events that get numbers.
use Rattle.std.proofs.Common.{◌≡◌, ◌≢◌, ◌⊎◌, ◌↔◌, ℕ, ◌<◌, List, [], ◌∷◌, ◌++◌, length, get_or, take, Some, refl, sym, ap, subst, ◌∙◌, inl, inr, arith}
use Rattle.std.specs.Prelude.{slice_get, slice_set}
use Rattle.std.specs.Global.{Global}
use Rattle.std.specs.List.{Contains}
use Rattle.std.specs.declared.vec.Vec.{Vec}
use Rattle.std.proofs.lemmas.Bool.{cases_eq}
use Rattle.std.proofs.lemmas.List.{get_or-set_same, get_or-take, get_or_default, length_push, length-set, length-take}
use Rattle.std.proofs.lemmas.List.Elements.{Contains-push, Contains-append_left, Contains-push_cases}
use Rattle.std.proofs.lemmas.Option.{slice_get-get_or, slice_get_read}
use Rattle.cb_model.specs.declared.id.EventId.{EventId}
use Rattle.cb_model.proofs.Numbers.{slice_get-set_other}
use Rattle.cb_instances.specs.declared.id.InstanceId.{InstanceId}
use Rattle.cb_instances.proofs.Placing.{same_id, decide_id}
use Rattle.cb_instances.proofs.Showing.{same_inside}
use Rattle.cb_instances.specs.Net.{slot, Once}
use Rattle.cb_nodes.specs.declared.id.NodeId.{NodeId}
use Rattle.cb_nodes.specs.declared.listed.Listed.{Listed}
use Rattle.cb_nodes.specs.declared.node.Node.{Node}
use Rattle.cb_nodes.specs.declared.numbers.Numbers.{Numbers}
use Rattle.cb_nodes.specs.Kept.{AreKept, TakesNumber, NodeLists, list_at, items_in, SameLists, ListsEvents, NumbersEvents, IsTableOf}
use Rattle.cb_nodes.specs.Table.{Table, IsNode, node_of, NumbersEvent, IsOne, Adds}
use Rattle.cb_nodes.proofs.Apart.{pairs_more}
use Rattle.cb_nodes.proofs.Taking.{same_number}

pub same_listed : (x y : Listed) → x.event ≡ y.event → x.id ≡ y.id → x ≡ y
same_listed x y e n = λ k. record { event = e k; id = n k }

-- one number has one node
pub one_node : (t : Table) (id : NodeId) (a b : Node) → IsNode t id a → IsNode t id b → a ≡ b
one_node t id a b is also = same_inside a b (sym is ∙ also)

module _ (old new : Numbers) (i : InstanceId) (e : EventId) (id : NodeId) (takes : TakesNumber old new id (node_of i e)) where
  other : (x : NodeId) (n : Node) → IsNode old.slots.items x n → x.0 ≢ id.0
  other x n is same =
      let some : slot old.slots.items id.0 ≡ Some n = ap (λ k. slot old.slots.items k) (sym same) ∙ is in
      let none = takes.free in
      absurd (cc)

  stays : (x : NodeId) (n : Node) → IsNode old.slots.items x n → IsNode new.slots.items x n
  stays x n is = takes.others x.0 (other x n is) ∙ is

  either : (x : NodeId) (n : Node) → IsNode new.slots.items x n → IsNode old.slots.items x n ⊎ ((x ≡ id) × (n ≡ node_of i e))
  either x n is = elim (cases_eq x.0 id.0) [
    | inl same ↦ inr (same_number x id same, same_inside n (node_of i e) (sym is ∙ (ap (λ k. slot new.slots.items k) same ∙ takes.this)))
    | inr ne ↦ inl (sym (takes.others x.0 ne) ∙ is)
  ]

  pub listed_more : (list : List Listed) → ListsEvents old.slots.items i list → ListsEvents new.slots.items i (list ++ record { event = e; id = id } ∷ [])
  listed_more list was =
      let here : Listed = record { event = e; id = id } in
      record {
        listed = λ x has. elim (Contains-push_cases list here x has) [
          | inl before ↦ stays x.id (node_of i x.event) (was.listed x before)
          | inr same ↦ subst (λ (y : Listed). IsNode new.slots.items y.id (node_of i y.event)) same takes.this
        ];
        whole = λ x is. elim (either x.id (node_of i x.event) is) [
          | inl before ↦ Contains-append_left list (here ∷ []) x (was.whole x before)
          | inr same ↦ subst (Contains (list ++ here ∷ [])) (same_listed here x (ap (λ (n : Node). n.event) (sym same.1)) (sym same.0)) (Contains-push list here)
        ];
        apart = pairs_more (λ x y. x.id ≢ y.id) list here was.apart (λ x has same. other x.id (node_of i x.event) (was.listed x has) (ap (λ (k : NodeId). k.0) same));
      }

  pub one_more : IsOne old.slots.items → ¬ NumbersEvent old.slots.items i e → IsOne new.slots.items
  one_more one none a b n is_a is_b = elim (either a n is_a) [
    | inl was_a ↦ elim (either b n is_b) [
      | inl was_b ↦ one a b n was_a was_b
      | inr now_b ↦ absurd (none (a, subst (IsNode old.slots.items a) now_b.1 was_a))
    ]
    | inr now_a ↦ elim (either b n is_b) [
      | inl was_b ↦ absurd (none (b, subst (IsNode old.slots.items b) now_a.1 was_b))
      | inr now_b ↦ now_a.0 ∙ sym now_b.0
    ]
  ]

  pub adds_more : (first : Table) (es : List EventId) → Adds first old.slots.items i es → Adds first new.slots.items i (es ++ e ∷ [])
  adds_more first es adds =
      let size = length_push es e in
      record {
        kept = λ x n is. stays x n (adds.kept x n is);
        each = λ x n is. elim (either x n is) [
          | inl was ↦ elim (adds.each x n was) [
            | inl before ↦ inl before
            | inr so ↦ inr (so.0, Contains-append_left es (e ∷ []) n.event so.1)
          ]
          | inr now ↦ inr (ap (λ (m : Node). m.instance) now.1, subst (Contains (es ++ e ∷ [])) (ap (λ (m : Node). m.event) (sym now.1)) (Contains-push es e))
        ];
        all = λ f has. elim (Contains-push_cases es e f has) [
          | inl before ↦ let at = adds.all f before in (at.0, stays at.0 (node_of i f) at.1)
          | inr same ↦ (id, subst (λ g. IsNode new.slots.items id (node_of i g)) same takes.this)
        ];
        count = omega (arith, takes.count, adds.count, size);
        capacity = omega (arith, takes.capacity, adds.capacity, adds.count, size);
      }

-- an event that was not there, and is not among those that came, is not there
pub none_yet : (first now : Table) (i : InstanceId) (es : List EventId) (e : EventId) → Adds first now i es → ¬ NumbersEvent first i e → ¬ Contains es e → ¬ NumbersEvent now i e
none_yet first now i es e adds none off (id, is) = elim (adds.each id (node_of i e) is) [
  | inl was ↦ none (id, was)
  | inr so ↦ off so.1
]

pub not_before : {X : Type 0} (xs : List X) (k : ℕ) (d : X) → Once xs → k < length xs → ¬ Contains (take k xs) (get_or xs k d)
not_before xs k d once lt (j, within, is) =
    let x = get_or xs k d in
    let below : j < k = omega (arith, within, length-take k xs) in
    let at : get_or xs j x ≡ x = sym (get_or-take k xs j x below) ∙ is in
    once j k x below lt (at ∙ get_or_default xs k d x lt)

pub numbers_more : (first old new : Numbers) (i : InstanceId) (list : List Listed) (es : List EventId) (e : EventId) (id : NodeId) → NumbersEvents first old i list es
    → ¬ NumbersEvent first.slots.items i e → ¬ Contains es e → TakesNumber old new id (node_of i e) → NumbersEvents first new i (list ++ record { event = e; id = id } ∷ []) (es ++ e ∷ [])
numbers_more first old new i list es e id all none off takes = record {
  kept = takes.kept;
  same_spare = record { slots = takes.same_spare.slots ∙ all.same_spare.slots; free = takes.same_spare.free ∙ all.same_spare.free };
  one = one_more old new i e id takes all.one (none_yet first.slots.items old.slots.items i es e all.adds none off);
  listed = listed_more old new i e id takes list all.listed;
  adds = adds_more old new i e id takes first.slots.items es all.adds;
}

-- an instance whose nodes are the same has the same list
pub same_list : (old new : Table) (j : InstanceId) (list : List Listed) → ((x : NodeId) (e : EventId) → IsNode new x (node_of j e) ↔ IsNode old x (node_of j e)) → ListsEvents old j list → ListsEvents new j list
same_list old new j list same was = record {
  listed = λ x has. (same x.id x.event).1 (was.listed x has);
  whole = λ x is. was.whole x ((same x.id x.event).0 is);
  apart = was.apart;
}

-- one instance's list is this one, and each other's is what it was
pub record SetsList (old new : NodeLists) (i : InstanceId) (list : List Listed) : Type 0 where
  pub this : list_at new i ≡ list
  pub others : (j : InstanceId) → j ≢ i → list_at new j ≡ list_at old j

pub list_set : (lists : NodeLists) (i : InstanceId) (v : Vec Listed Global) → i.0 < length lists → SetsList lists (slice_set lists i.0 v) i v.items
list_set lists i v lt = record {
  this = ap items_in (slice_get-get_or (slice_set lists i.0 v) i.0 v (omega (arith, length-set lists i.0 v)) ∙ ap Some (get_or-set_same lists i.0 v v lt));
  others = λ j ne. ap items_in (slice_get-set_other lists i.0 j.0 v (λ e. ne (same_id j i (sym e))));
}

pub sound_sets : (old new : Numbers) (lists lists' : NodeLists) (i : InstanceId) (list : List Listed) → AreKept new → IsOne new.slots.items → ListsEvents new.slots.items i list → SetsList lists lists' i list
    → ((j : InstanceId) → j ≢ i → (x : NodeId) (e : EventId) → IsNode new.slots.items x (node_of j e) ↔ IsNode old.slots.items x (node_of j e)) → IsTableOf old lists → IsTableOf new lists'
sound_sets old new lists lists' i list kept one listed sets same sound = record {
  kept = kept;
  one = one;
  listed = λ j. elim (decide_id j i) [
    | inl e ↦ subst (λ k. ListsEvents new.slots.items k (list_at lists' k)) (sym e) (subst (ListsEvents new.slots.items i) (sym sets.this) listed)
    | inr ne ↦ subst (ListsEvents new.slots.items j) (sym (sets.others j ne)) (same_list old.slots.items new.slots.items j (list_at lists j) (same j ne) (sound.listed j))
  ];
}

pub numbered_sound : (old new : Numbers) (lists lists' : NodeLists) (i : InstanceId) (list : List Listed) (es : List EventId) → NumbersEvents old new i list es → SetsList lists lists' i list → IsTableOf old lists → IsTableOf new lists'
numbered_sound old new lists lists' i list es all sets sound =
    sound_sets old new lists lists' i list all.kept all.one all.listed sets
    (λ j ne x e. (
      λ is. elim (all.adds.each x (node_of j e) is) [ inl was ↦ was | inr so ↦ absurd (ne so.0) ],
      λ was. all.adds.kept x (node_of j e) was,
    ))
    sound

-- nothing changed but what fits without memory
pub same_sound : (old new : Numbers) (lists lists' : NodeLists) → AreKept new → new.slots.items ≡ old.slots.items → SameLists lists lists' → IsTableOf old lists → IsTableOf new lists'
same_sound old new lists lists' kept slots same sound = record {
  kept = kept;
  one = subst IsOne (sym slots) sound.one;
  listed = λ i. subst (λ t. ListsEvents t i (list_at lists' i)) (sym slots) (subst (ListsEvents old.slots.items i) (sym (same i)) (sound.listed i));
}

-- the list that is read there
pub list_read : (lists : NodeLists) (i : InstanceId) (v : Vec Listed Global) → i.0 < length lists → v ≡ get_or lists i.0 v → slice_get lists i.0 ≡ Some v
list_read lists i v lt read = slice_get_read lists (length lists) i.0 v refl lt read

-- nothing that was said of an event's number changed
pub none_there : (old new : Table) (i : InstanceId) → new ≡ old → ((e : EventId) → ¬ NumbersEvent old i e) → (e : EventId) → ¬ NumbersEvent new i e
none_there old new i same none e (id, is) = none e (id, subst (λ (t : Table). IsNode t id (node_of i e)) same is)

-- Numbers of an instance that are free again.
use Rattle.std.proofs.Common.{◌≡◌, ◌≢◌, ◌↔◌, ℕ, ◌<◌, ◌≤◌, List, [], ◌∷◌, ◌++◌, length, get_or, take, Option, Some, None, refl, sym, ap, subst, ◌∙◌, inl, inr, arith}
use Rattle.std.specs.List.{Contains}
use Rattle.std.proofs.lemmas.List.{get_or-take, get_or_default, length_push, length-take}
use Rattle.std.proofs.lemmas.List.Elements.{Contains-push, Contains-append_left, Contains-push_cases, Contains-get_or}
use Rattle.std.specs.Prelude.{IfSome, IfNone}
use Rattle.std.proofs.lemmas.Option.{IfSome_then}
use Rattle.cb_model.specs.declared.id.EventId.{EventId}
use Rattle.cb_model.proofs.Numbers.{contains_at, place_in}
use Rattle.cb_model.proofs.Rising.{nothing_in_empty}
use Rattle.cb_instances.specs.declared.id.InstanceId.{InstanceId}
use Rattle.cb_instances.specs.Net.{slot}
use Rattle.cb_nodes.specs.declared.id.NodeId.{NodeId}
use Rattle.cb_nodes.specs.declared.listed.Listed.{Listed}
use Rattle.cb_nodes.specs.declared.node.Node.{Node}
use Rattle.cb_nodes.specs.declared.numbers.Numbers.{Numbers}
use Rattle.cb_nodes.specs.Kept.{AreKept, GivesBack, NodeLists, list_at, ListsEvents, HaveNumbers, AreDistinct, IsAmongListed, Frees, IsTableOf}
use Rattle.cb_nodes.specs.Table.{Table, IsNode, HasNumber, node_of, NumbersEvent, AreEventsAt, IsOne, Removes}
use Rattle.cb_nodes.proofs.Apart.{no_more, pairs_at}
use Rattle.cb_nodes.proofs.Listing.{one_node, SetsList, sound_sets}
use Rattle.cb_nodes.proofs.Taking.{same_number}

pub frees_none : (old : Numbers) → AreKept old → Frees old old []
frees_none old kept = record {
  kept = kept;
  each = λ x n. (λ is. (is, λ among. nothing_in_empty among.0 among.1), λ h. h.0);
  count = omega arith;
  capacity = refl;
}

pub frees_more : (first old new : Numbers) (list : List Listed) (x : Listed) → Frees first old list → GivesBack old new x.id → Frees first new (list ++ x ∷ [])
frees_more first old new list x frees back = record {
  kept = back.kept;
  each = λ id n. (
    λ is.
        let ne : id.0 ≢ x.id.0 = λ e. let some : slot new.slots.items x.id.0 ≡ Some n = ap (λ k. slot new.slots.items k) (sym e) ∙ is in let none = back.this in absurd (cc) in
        let was = (frees.each id n).0 (sym (back.others id.0 ne) ∙ is) in (
          was.0,
          λ (y, has, same). elim (Contains-push_cases list x y has) [
            | inl before ↦ was.1 (y, before, same)
            | inr e ↦ ne (ap (λ (k : NodeId). k.0) (sym same) ∙ ap (λ (z : Listed). z.id.0) (sym e))
          ],
        ),
    λ (is, off).
        let ne : id.0 ≢ x.id.0 = λ e. off (x, Contains-push list x, same_number x.id id (sym e)) in
        let was = (frees.each id n).1 (is, λ (y, has, same). off (y, Contains-append_left list (x ∷ []) y has, same)) in
        back.others id.0 ne ∙ was,
  );
  count = let n = length_push list x in omega (arith, frees.count, back.count);
  capacity = back.capacity ∙ frees.capacity;
}

-- a number that comes later in the list still has its node
pub still_had : (first old : Numbers) (list : List Listed) (k : ℕ) (d : Listed) → k < length list → Frees first old (take k list) → HaveNumbers first.slots.items list → AreDistinct list
    → HasNumber old.slots.items (get_or list k d).id
still_had first old list k d lt frees have apart =
    let x = get_or list k d in
    let had = have x (Contains-get_or list k d lt) in (
      had.0,
      (frees.each x.id had.0).1 (
        had.1,
        λ (y, (j, within, is), same).
            let below : j < k = omega (arith, within, length-take k list) in
            let at : get_or list j y ≡ y = sym (get_or-take k list j y below) ∙ is in
            let here : get_or list k y ≡ x = get_or_default list k y d lt in
            apart j k y below lt (ap (λ (z : Listed). z.id) at ∙ (same ∙ ap (λ (z : Listed). z.id) (sym here))),
      ),
    )

module _ (t : Table) (i : InstanceId) (list : List Listed) (one : IsOne t) (is_list : ListsEvents t i list) where
  -- the number of an event of the instance is listed, and no other
  pub among : (id : NodeId) (n : Node) → IsNode t id n → (n.instance ≡ i) ↔ IsAmongListed list id
  among id n is = (
    λ e.
        let x : Listed = record { event = n.event; id = id } in
        let m : n ≡ node_of i n.event = λ k. record { instance = e k; event = n.event } in
        (x, is_list.whole x (subst (IsNode t id) m is), refl),
    λ (x, has, same).
        let at : IsNode t id (node_of i x.event) = subst (λ k. IsNode t k (node_of i x.event)) same (is_list.listed x has) in
        ap (λ (m : Node). m.instance) (one_node t id n (node_of i x.event) is at),
  )

  -- the list is as long as the instance has events
  pub as_many : (events : List EventId) → AreEventsAt t i events → length events ≡ length list
  as_many events are =
      let less : length events ≤ length list = no_more (λ (e : EventId) (x : Listed). x.event ≡ e) events list
      (λ j e at.
      let has = (are.exactly e).0 (contains_at events j e at) in
      let x : Listed = record { event = e; id = has.0 } in
      let place = place_in list x (is_list.whole x has.1) in
      (place.0, x, place.1, refl))
      (λ j k e f x lt at_j at_k is_e is_f. pairs_at (λ a b. a ≢ b) events are.once j k e f lt at_j at_k (sym is_e ∙ is_f)) in
      let more : length list ≤ length events = no_more (λ (x : Listed) (e : EventId). x.event ≡ e) list events
      (λ j x at.
      let has = (are.exactly x.event).1 (x.id, is_list.listed x (contains_at list j x at)) in
      let place = place_in events x.event has in
      (place.0, x.event, place.1, refl))
      (λ j k x y e lt at_j at_k is_x is_y.
      let n : IsNode t y.id (node_of i x.event) = subst (λ f. IsNode t y.id (node_of i f)) (is_y ∙ sym is_x) (is_list.listed y (contains_at list k y at_k)) in
      pairs_at (λ a b. a.id ≢ b.id) list is_list.apart j k x y lt at_j at_k (one x.id y.id (node_of i x.event) (is_list.listed x (contains_at list j x at_j)) n)) in
      omega arith

pub have_numbers : (t : Table) (i : InstanceId) (list : List Listed) → ListsEvents t i list → HaveNumbers t list
have_numbers t i list is_list x has = (node_of i x.event, is_list.listed x has)

pub removed : (old new : Numbers) (i : InstanceId) (list : List Listed) → IsOne old.slots.items → ListsEvents old.slots.items i list → Frees old new list → Removes old.slots.items new.slots.items i
removed old new i list one is_list frees = record {
  each = λ id n. (
    λ is. let was = (frees.each id n).0 is in (was.0, λ e. was.1 ((among old.slots.items i list one is_list id n was.0).0 e)),
    λ (is, ne). (frees.each id n).1 (is, λ a. ne ((among old.slots.items i list one is_list id n is).1 a)),
  );
  count = λ events are. let n = as_many old.slots.items i list one is_list events are in omega (arith, frees.count);
  capacity = frees.capacity;
}

pub removed_sound : (old new : Numbers) (lists lists' : NodeLists) (i : InstanceId) (list : List Listed) → list_at lists i ≡ list → Frees old new list → SetsList lists lists' i [] → IsTableOf old lists → IsTableOf new lists'
removed_sound old new lists lists' i list is frees sets sound =
    let is_list : ListsEvents old.slots.items i list = subst (ListsEvents old.slots.items i) is (sound.listed i) in
    let now = removed old new i list sound.one is_list frees in
    sound_sets old new lists lists' i [] frees.kept
    (λ a b n is_a is_b. sound.one a b n ((now.each a n).0 is_a).0 ((now.each b n).0 is_b).0)
    (record {
      listed = λ x has. absurd (nothing_in_empty x has);
      whole = λ x is_x. absurd (((now.each x.id (node_of i x.event)).0 is_x).1 refl);
      apart = λ j k d lt le. absurd (omega arith);
    })
    sets
    (λ j ne x e. (λ is_x. ((now.each x (node_of j e)).0 is_x).0, λ was. (now.each x (node_of j e)).1 (was, ne)))
    sound

-- an instance without a list has no nodes
pub removed_none : (numbers : Numbers) (lists : NodeLists) (i : InstanceId) → list_at lists i ≡ [] → IsTableOf numbers lists → Removes numbers.slots.items numbers.slots.items i
removed_none numbers lists i none sound =
    let is_list : ListsEvents numbers.slots.items i [] = subst (ListsEvents numbers.slots.items i) none (sound.listed i) in
    removed numbers numbers i [] sound.one is_list (frees_none numbers sound.kept)

-- the list of an instance, as it is read
pub listed_there : (numbers : Numbers) (lists : NodeLists) (i : InstanceId) (list : List Listed) → list_at lists i ≡ list → IsTableOf numbers lists → ListsEvents numbers.slots.items i list
listed_there numbers lists i list is sound = subst (ListsEvents numbers.slots.items i) is (sound.listed i)

pub found_node : (numbers : Numbers) (lists : NodeLists) (i : InstanceId) (list : List Listed) (e : EventId) (r : Option NodeId) → list_at lists i ≡ list → IsTableOf numbers lists
    → IfSome r (λ id. Contains list (record { event = e; id = id })) → IfSome r (λ id. IsNode numbers.slots.items id (node_of i e))
found_node numbers lists i list e r is sound found = IfSome_then r found (λ id has. (listed_there numbers lists i list is sound).listed (record { event = e; id = id }) has)

pub no_node : (numbers : Numbers) (lists : NodeLists) (i : InstanceId) (list : List Listed) (e : EventId) → list_at lists i ≡ list → IsTableOf numbers lists
    → ((x : Listed) → Contains list x → x.event ≢ e) → ¬ NumbersEvent numbers.slots.items i e
no_node numbers lists i list e is sound none (id, at) = let x : Listed = record { event = e; id = id } in none x ((listed_there numbers lists i list is sound).whole x at) refl

pub if_none : {A : Type 0} (r : Option A) (P Q : Type 0) → (P → Q) → IfNone r P → IfNone r Q
if_none None P Q more p = more p
if_none (Some x) P Q more p = tt

pub if_none_at_all : {A : Type 0} (r : Option A) (Q : Type 0) → Q → IfNone r Q
if_none_at_all None Q q = q
if_none_at_all (Some x) Q q = tt

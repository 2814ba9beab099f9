-- What a further instance brings: its problems are listed, and get rows.
use Rattle.std.proofs.Common.{◌≡◌, ◌≢◌, ◌↔◌, ◌⊎◌, ℕ, zero, suc, ◌-◌, ◌/◌, ◌%◌, ◌==◌, ◌<◌, ◌≤◌, List, [], ◌∷◌, ◌++◌, Option, Some, None, is_some, length, replicate, take, slice_index_or, refl, sym, ap, subst, ◌∙◌, inl, inr, arith}
use Rattle.std.specs.Global.{Global}
use Rattle.std.specs.declared.vec.Vec.{Vec}
use Rattle.std.specs.List.{All, Contains}
use Rattle.std.specs.Int.{bit_at}
use Rattle.std.proofs.lemmas.Bool.{cases_lt}
use Rattle.std.proofs.lemmas.List.{get_or_append_left, get_or-append_right, get_or-replicate, get_or_past, length-replicate}
use Rattle.std.proofs.lemmas.List.Elements.{Contains-append_left, Contains-push, Contains-push_cases, Contains-get_or}
use Rattle.std.proofs.lemmas.List.Quantifiers.{all_pairs_push}
use Rattle.cb_bits.specs.Bits.{words_for}
use Rattle.cb_lanes.specs.Words.{bit_of}
use Rattle.cb_model.specs.declared.id.ClassId.{ClassId}
use Rattle.cb_model.specs.declared.id.EventId.{EventId}
use Rattle.cb_model.specs.declared.node.NodeName.{NodeName}
use Rattle.cb_model.specs.declared.tables.Tables.{Tables}
use Rattle.cb_model.specs.Classes.{HasEvent, NamesClass, NamesEvent}
use Rattle.cb_model.specs.Views.{AreEventsOf}
use Rattle.cb_model.specs.WellTyped.{WellTyped}
use Rattle.cb_model.proofs.Numbers.{slice_get-replicate}
use Rattle.cb_model.proofs.Rising.{name_cmp_total, name_cmp_exact}
use Rattle.cb_network.specs.declared.edit.Edit.{Edit}
use Rattle.cb_network.specs.declared.edit.Edit.TheVariants.{Create, Delete, Link, Unlink, Mute, Unmute}
use Rattle.cb_network.specs.declared.edit.EditRefusal.TheVariants.{Exists}
use Rattle.cb_network.specs.Causes.{Causes}
use Rattle.cb_network.specs.Nodes.{IsNodeOf, IsProblem}
use Rattle.cb_network.specs.Topology.{Topology, IsLive as IsLiveName, HasClass}
use Rattle.cb_network.proofs.Sets.{got_insert}
use Rattle.cb_change.specs.Costs.{IsEditCost, IsTotal, CountsAtMost}
use Rattle.cb_change.specs.Touched.{CausesTouched}
use Rattle.cb_change.proofs.Kept.{never_meets}
use Rattle.cb_change.proofs.Steps.{links_kept, grows, near, one_class}
use Rattle.cb_accept.proofs.Members.{one_class as named_class}
use Rattle.cb_accept.proofs.Own.{event_is_listed}
use Rattle.cb_accept.specs.NumberedEdits.{IsNumberedEdit}
use Rattle.cb_accept.specs.declared.numbered.NumberedEdit.{NumberedEdit}
use Rattle.cb_accept.specs.declared.numbered.NumberedEdit.TheVariants as numbered
use Rattle.cb_instances.specs.declared.id.InstanceId.{InstanceId}
use Rattle.cb_instances.specs.Net.{Net, IsNamed, Once, event_name, name_at, name_or}
use Rattle.cb_nodes.specs.declared.id.NodeId.{NodeId}
use Rattle.cb_nodes.specs.declared.node.Node.{Node}
use Rattle.cb_nodes.specs.Table.{IsNode, node_of}
use Rattle.cb_nodes.proofs.Events.{one_count}
use Rattle.cb_nodes.proofs.Listing.{one_node, not_before}
use Rattle.cb_pool.specs.declared.slot.Slot.{Slot}
use Rattle.cb_pool.specs.Pool.{Pool, SlotHasRow, IsTaken, slot_row}
use Rattle.cb_topo.specs.Applied.{Applies, IsNodeCapacityAfter}
use Rattle.cb_topo.specs.Numbered.{Numbered, topology_of, IsNodeNamed, IsLiveNode, IsWhole}
use Rattle.cb_graph.specs.Edges.{number}
use Rattle.cb_graph.proofs.Chains.{named_once}
use Rattle.cb_cache.specs.Cached.{AreRows, but_spare}
use Rattle.cb_cache.specs.declared.agenda.Agenda.{Agenda}
use Rattle.cb_cache.specs.declared.create.Further.{Further}
use Rattle.cb_cache.specs.declared.rows.Rows.{Rows}
use Rattle.cb_cache.specs.declared.scratch.Scratch.{Scratch}
use Rattle.cb_cache.specs.Created.{MakesInstance, IsNewProblem, IsProblemAmong, IsPoolFor, IsFurtherFor, pool_or}
use Rattle.cb_cache.specs.Filled.{AddsRows, HaveNoSlots, CostAtMost}
use Rattle.cb_cache.specs.Kept.{OwnSlots, AreOwned, AreRight, IsCacheOf}
use Rattle.cb_cache.specs.Laws.{IsEdited}
use Rattle.cb_cache.specs.Most.{HasEventsWithin}
use Rattle.cb_cache.specs.Numbers.{AreOnce, IsProblemNumber}
use Rattle.cb_cache.specs.Reached.{HasSlot}
use Rattle.cb_cache.specs.Capacity.{HasCapacityFor}
use Rattle.cb_cache.specs.Spare.{AreButSpare}
use Rattle.cb_cache.proofs.Cutting.{still_problem}
use Rattle.cb_cache.proofs.Edited.{row_clean, old_number}
use Rattle.cb_cache.proofs.Opened.{AreNumbersOf, node_of_problem, numbers_live, within_total}

module _ (n : Numbered) (whole : IsWhole n) where
  -- a number's node has the number's name
  node_name : (id : NodeId) (node : Node) (name : NodeName) → IsNode n.nodes id node → IsNodeNamed n id name
      → IsNamed n.net node.instance name.instance × (event_name (topology_of n).model node.event ≡ name.event)
  node_name id node name is named =
      let same : named.node ≡ node = one_node n.nodes id named.node node named.is is in (
        subst (λ (x : Node). IsNamed n.net x.instance name.instance) same named.instance,
        subst (λ (x : Node). event_name (topology_of n).model x.event ≡ name.event) same named.event,
      )

  -- a node has one number
  pub one_number : (a b : NodeId) (node : Node) → IsNode n.nodes a node → IsNode n.nodes b node → a ≡ b
  one_number a b node is_a is_b =
      let (name, named) = whole.node_named a node is_a in
      let own = node_name a node name is_a named in
      whole.one a b name named (record { node = node; is = is_b; instance = own.0; event = own.1 })

  module _ (instance : InstanceId) (events : List EventId) (once : Once events) (i : ℕ) (d : EventId) (low : i < length events) (list : List NodeId)
      (problems : (id : NodeId) → Contains list id ↔ IsProblemAmong n instance (take i events) id) (apart : AreOnce list) where
    abbrev e : EventId
    e = slice_index_or events i d

    -- the next event's node is listed
    module _ (id : NodeId) (is : IsNode n.nodes id (node_of instance e)) (problem : IsProblemNumber n id) where
      pub among_more : (other : NodeId) → Contains (list ++ id ∷ []) other ↔ IsProblemAmong n instance (take i events ++ e ∷ []) other
      among_more other = (
        λ has. elim (Contains-push_cases list id other has) [
          | inl early ↦ let was = (problems other).0 early in (was.0, Contains-append_left (take i events) (e ∷ []) was.0 was.1, was.2, was.3)
          | inr same ↦ (e, Contains-push (take i events) e, subst (λ (k : NodeId). IsNode n.nodes k (node_of instance e)) same is, subst (IsProblemNumber n) same problem)
        ],
        λ (f, has, there, its). elim (Contains-push_cases (take i events) e f has) [
          | inl early ↦ Contains-append_left list (id ∷ []) other ((problems other).1 (f, early, there, its))
          | inr same ↦
              let here = subst (λ (k : EventId). IsNode n.nodes other (node_of instance k)) (sym same) there in
              subst (Contains (list ++ id ∷ [])) (one_number id other (node_of instance e) is here) (Contains-push list id)
        ],
      )

      pub once_among : AreOnce (list ++ id ∷ [])
      once_among = all_pairs_push (λ a b. a ≢ b) list id apart (λ j k lt same.
          let was = (problems (slice_index_or list j k)).0 (Contains-get_or list j k lt) in
          let there = subst (λ (x : NodeId). IsNode n.nodes x (node_of instance was.0)) same was.2 in
          let event : was.0 ≡ e = ap (λ (x : Node). x.event) (one_node n.nodes id (node_of instance was.0) (node_of instance e) there is) in
          not_before events i d once low (subst (Contains (take i events)) event was.1))

    -- the next event has no node that is a problem
    pub among_past : ((id : NodeId) → IsNode n.nodes id (node_of instance e) → ¬ IsProblemNumber n id) → (other : NodeId) → Contains list other ↔ IsProblemAmong n instance (take i events ++ e ∷ []) other
    among_past none other = (
      λ has. let was = (problems other).0 has in (was.0, Contains-append_left (take i events) (e ∷ []) was.0 was.1, was.2, was.3),
      λ (f, has, there, its). elim (Contains-push_cases (take i events) e f has) [
        | inl early ↦ (problems other).1 (f, early, there, its)
        | inr same ↦ absurd (none other (subst (λ (k : EventId). IsNode n.nodes other (node_of instance k)) (sym same) there) its)
      ],
    )

-- the edit brings an instance
pub created : (edit : Edit) → MakesInstance edit → (name : List ℕ) × (class : List ℕ) × (edit ≡ Create name class)
created (Create name class) _ = (name, class, refl)
created (Delete name) none = absurd none
created (Link a rel b) none = absurd none
created (Unlink a rel b) none = absurd none
created (Mute event name) none = absurd none
created (Unmute event name) none = absurd none

-- what has a row had it in the old topology, and has it in the same slot, and no further slot is taken
pub record AreMoved (slots new_slots : List (Option Slot)) (p new : Pool) : Type 0 where
  pub slots_are : (i : ℕ) (slot : Slot) → HasSlot new_slots i slot ↔ HasSlot slots i slot
  pub rows : (slot : Slot) (row : List ℕ) → SlotHasRow p slot row → (words : List ℕ) × SlotHasRow new slot words × ((k : ℕ) → bit_of words k ≡ bit_of row k)
  pub taken : (slot : Slot) → IsTaken new slot → IsTaken p slot

module _ (old new : Numbered) (name class : List ℕ) (edited : IsEdited old (Create name class) new) where
  abbrev t : Topology
  t = topology_of old

  abbrev u : Topology
  u = topology_of new

  -- the instance wasn't there
  not_there : ¬ IsLiveName t name
  not_there live = edited.applies.after.0 Exists live

  stays : (q : NodeName) → IsNodeOf t q → IsNodeOf u q
  stays q (event, at) = (
    event,
    record {
      class = at.class;
      of_class = (grows t u (Create name class) edited.applies.after tt).instances q.instance at.class at.of_class;
      named = subst (λ m. NamesEvent m at.class q.event event) (near t u (Create name class) edited.applies.after).model at.named;
    },
  )

  -- a problem of the new topology is the instance's, or was one
  came : (q : NodeName) → IsProblem u q → (q.instance ≡ name) ⊎ IsProblem t q
  came q y =
      let (c, names, is) = edited.applies.after.1 in
      let x = subst (λ (w : Topology). IsProblem w q) is y in
      elim ((got_insert name_cmp_total name_cmp_exact t.instances name c q.instance x.class).0 x.of_class) [
        | inl (here, same) ↦ inl here
        | inr (other, before) ↦ inr (record { class = x.class; of_class = before; event = x.event; problem = x.problem; named = x.named })
      ]

  there : (q : NodeName) → IsProblem t q → q.instance ≢ name
  there q x same = not_there (subst (IsLiveName t) same (ap is_some x.of_class))

  still : (q : NodeName) → IsProblem t q → IsProblem u q
  still q x = still_problem t u (near t u (Create name class) edited.applies.after) q x (stays q (node_of_problem t q x))

  clean : (q : NodeName) → ¬ CausesTouched t u q
  clean q (n, touched, _) =
      never_meets t u (links_kept t u (Create name class) edited.applies.after tt) touched.has.row.path n.instance touched.meets

  module _ (slots new_slots : List (Option Slot)) (p mid : Pool) (right : AreRight old slots p) (moved : AreMoved slots new_slots p mid) (ids : List NodeId) (once : AreOnce ids)
      (listed : (id : NodeId) → Contains ids id ↔ IsNewProblem new (Create name class) id) where
    pub moved_rows : AreRows new new_slots mid
    moved_rows i slot has =
        let before = (moved.slots_are i slot).0 has in
        let (q, named, problem) = right.only i slot before in
        let (row, own, reached) = right.rows i slot before in
        let (words, its, same) = moved.rows slot row own in
        let later = row_clean old new (Create name class) edited i q named row (stays q (node_of_problem t q problem)) (clean q) reached in
        (words, its, λ k. (λ bit. (later k).0 (sym (same k) ∙ bit), λ leads. same k ∙ (later k).1 leads))

    moved_problem : (i : ℕ) (slot : Slot) → HasSlot new_slots i slot → (q : NodeName) × IsNodeNamed new (number i) q × IsProblem t q
    moved_problem i slot has =
        let (q, named, problem) = right.only i slot ((moved.slots_are i slot).0 has) in
        (q, edited.applies.nodes (number i) q named (stays q (node_of_problem t q problem)), problem)

    pub moved_apart : OwnSlots new_slots
    moved_apart i j slot has_i has_j = right.apart i j slot ((moved.slots_are i slot).0 has_i) ((moved.slots_are j slot).0 has_j)

    pub none_new : HaveNoSlots new_slots ids
    none_new id slot has own =
        let (q, named, problem, here) = (listed id).0 has in
        let (r, was, before) = moved_problem id.0 slot own in
        there r before (ap (λ (x : NodeName). x.instance) (named_once new id r q was named) ∙ here)

    pub new_numbers : AreNumbersOf new (λ q. IsProblem u q × ¬ IsProblem t q) ids
    new_numbers id = (
      λ has. let (q, named, problem, here) = (listed id).0 has in (q, named, (problem, λ before. there q before here)),
      λ (q, named, (problem, fresh)). elim (came q problem) [
        | inl here ↦ (listed id).1 (q, named, problem, here)
        | inr before ↦ absurd (fresh before)
      ],
    )

    pub new_live : All (IsLiveNode new) ids
    new_live = numbers_live new edited.whole_after ids once (λ q. IsProblem u q × ¬ IsProblem t q) new_numbers (λ q x. node_of_problem u q x.0)

    pub right_created : (after_slots : List (Option Slot)) (after : Pool) → AddsRows new ids new_slots after_slots mid after → AreRight new after_slots after
    right_created after_slots after adds = record {
      rows = adds.rows;
      only = λ i slot has. elim (adds.only i slot has) [
        | inl before ↦ let (q, named, problem) = moved_problem i slot before in (q, named, still q problem)
        | inr among ↦ let (q, named, problem, here) = (listed (number i)).0 among in (q, named, problem)
      ];
      all = λ i (q, named, problem). elim (came q problem) [
        | inl here ↦ adds.all (number i) ((listed (number i)).1 (q, named, problem, here))
        | inr before ↦
            let number_then = old_number old new (Create name class) edited i q named (node_of_problem t q before) in
            let own = right.all i (q, number_then, before) in
            (own.0, adds.kept i own.0 ((moved.slots_are i own.0).1 own.1))
      ];
      apart = adds.apart;
      owned = λ slot taken. elim (adds.taken slot taken) [
        | inl before ↦
            let (i, own) = right.owned slot (moved.taken slot before) in
            (i, adds.kept i slot ((moved.slots_are i slot).1 own))
        | inr now ↦ now
      ];
    }

    pub within_new : (steps new_steps : ℕ) → CostAtMost new ids steps new_steps → CountsAtMost (IsTotal (λ q. IsProblem u q × ¬ IsProblem t q) (Causes u)) steps new_steps
    within_new = within_total new edited.whole_after ids once (λ q. IsProblem u q × ¬ IsProblem t q) new_numbers (λ q x. node_of_problem u q x.0)

-- the class of the instance that the edit brought is the one that the edit names
pub class_is_named : (old new : Numbered) (name class : List ℕ) → Applies old (Create name class) new → (c : ClassId) → HasClass (topology_of new) name c
    → NamesClass (topology_of new).model class c
class_is_named old new name class applies c of_c =
    let (d, own, is) = applies.after.1 in
    let model : (topology_of old).model ≡ (topology_of new).model = (near (topology_of old) (topology_of new) (Create name class) applies.after).model in
    let here = subst (λ (w : Topology). HasClass w name d) (sym is) ((got_insert name_cmp_total name_cmp_exact (topology_of old).instances name d name d).1 (inl (refl, refl))) in
    let same : d ≡ c = one_class (topology_of new) name d c here of_c in
    subst (NamesClass (topology_of new).model class) same (subst (λ (m : Tables). NamesClass m class d) model own)

-- the problems among the events of an instance are those of the instance that the edit brought
module _ (old new : Numbered) (name class : List ℕ) (applies : Applies old (Create name class) new) (whole : IsWhole new) (typed : WellTyped (topology_of new).model)
    (instance : InstanceId) (called : IsNamed new.net instance name) (c : ClassId) (names : NamesClass (topology_of new).model class c) (events : List EventId)
    (are : AreEventsOf (topology_of new).model c events) where
  of_class : HasClass (topology_of new) name c
  of_class =
      let (d, own, is) = applies.after.1 in
      let model : (topology_of old).model ≡ (topology_of new).model = (near (topology_of old) (topology_of new) (Create name class) applies.after).model in
      let same : d ≡ c = named_class (topology_of new).model typed class d c (subst (λ (m : Tables). NamesClass m class d) model own) names in
      subst (λ (k : ClassId). HasClass (topology_of new) name k) same
      (subst (λ (w : Topology). HasClass w name d) (sym is) ((got_insert name_cmp_total name_cmp_exact (topology_of old).instances name d name d).1 (inl (refl, refl))))

  one_name : (q : List ℕ) → IsNamed new.net instance q → q ≡ name
  one_name q is = let e : Some q ≡ Some name = sym is ∙ called in cc

  pub new_listed : (id : NodeId) → IsProblemAmong new instance events id ↔ IsNewProblem new (Create name class) id
  new_listed id = (
    λ (e, has, is, (q, named, problem)). (q, named, problem, one_name q.instance (node_name new whole id (node_of instance e) q is named).0),
    λ (q, named, problem, here).
        let at : named.node.instance ≡ instance = whole.net.one named.node.instance instance name (subst (IsNamed new.net named.node.instance) here named.instance) called in
        let event = whole.had id named.node named.is in
        let own : name_at new.net named.node.instance ≡ name = ap name_or named.instance ∙ here in
        let class_is : event.0 ≡ c = one_class (topology_of new) name event.0 c (subst (λ (x : List ℕ). HasClass (topology_of new) x event.0) own event.1) of_class in
        let has = subst (λ (k : ClassId). HasEvent (topology_of new).model k named.node.event) class_is event.2 in
        let node : named.node ≡ node_of instance named.node.event = λ k. record { instance = at k; event = named.node.event } in
        (named.node.event, event_is_listed (topology_of new).model c events are named.node.event has, subst (IsNode new.nodes id) node named.is, (q, named, problem)),
  )

  -- there are no more than the class has events
  pub no_more_events : (most : ℕ) → HasEventsWithin (topology_of new).model (Create name class) most → length events ≤ most
  no_more_events most within =
      let (list, are_list, few) = within c names in
      let same = one_count (topology_of new).model c list events are_list are in
      omega arith

abbrev zeros : ℕ → List ℕ
zeros n = replicate n 0

zero_read : (n j : ℕ) → slice_index_or (zeros n) j 0 ≡ 0
zero_read n j = elim (cases_lt j n) [
  | inl lt ↦ get_or-replicate n j 0 0 lt
  | inr le ↦ get_or_past (zeros n) j 0 (let e : length (zeros n) ≡ n = length-replicate n 0 in omega arith)
]

-- places after that have no slot change nothing
more_slots : (slots : List (Option Slot)) (k i : ℕ) (slot : Slot) → HasSlot (slots ++ replicate k None) i slot ↔ HasSlot slots i slot
more_slots [] k i slot = (λ has. let e = slice_get-replicate k i None (Some slot) has in absurd (cc), λ has. absurd (cc))
more_slots (x ∷ slots) k zero slot = (λ has. has, λ has. has)
more_slots (x ∷ slots) k (suc i) slot = more_slots slots k i slot

zeros_after : (row : List ℕ) (n j : ℕ) → slice_index_or (row ++ zeros n) j 0 ≡ slice_index_or row j 0
zeros_after row n j = elim (cases_lt j (length row)) [
  | inl lt ↦ get_or_append_left row (zeros n) 0 j lt
  | inr le ↦ get_or-append_right row (zeros n) (length row) j 0 refl le ∙ zero_read n (j - length row) ∙ sym (get_or_past row j 0 le)
]

-- neither do zeros after a row
bit_after : (row : List ℕ) (n k : ℕ) → bit_of (row ++ zeros n) k ≡ bit_of row k
bit_after row n k = ap (λ (word : ℕ). bit_at word (k % 64) == 1) (zeros_after row n (k / 64))

moved_pool : (width more : ℕ) (p : Pool) (pool : Option Pool) → IsPoolFor width more p pool → (slot : Slot) (row : List ℕ) → SlotHasRow p slot row
    → (words : List ℕ) × SlotHasRow (pool_or p pool) slot words × ((k : ℕ) → bit_of words k ≡ bit_of row k)
moved_pool width more p None is slot row has = (row, has, λ k. refl)
moved_pool width more p (Some wider) (wide, rows, spare) slot row has =
    let words = slot_row p slot ++ zeros (wider.width - p.width) in
    (words, (rows slot words).1 (has.0, refl), λ k. bit_after (slot_row p slot) (wider.width - p.width) k ∙ ap (λ (r : List ℕ). bit_of r k) (sym has.1))

moved_taken : (width more : ℕ) (p : Pool) (pool : Option Pool) → IsPoolFor width more p pool → (slot : Slot) → IsTaken (pool_or p pool) slot → IsTaken p slot
moved_taken width more p None is slot taken = taken
moved_taken width more p (Some wider) (wide, rows, spare) slot taken = ((rows slot (slot_row wider slot)).0 (taken, refl)).0

pub moved_for : (capacity more : ℕ) (rows : Rows) (further : Further) → IsFurtherFor capacity more rows further → AreMoved rows.slots.items further.slots.items rows.pool (pool_or rows.pool further.pool)
moved_for capacity more rows further is = record {
  slots_are = λ i slot. subst (λ (xs : List (Option Slot)). HasSlot xs i slot ↔ HasSlot rows.slots.items i slot) (sym is.slots) (more_slots rows.slots.items (capacity - length rows.slots.items) i slot);
  rows = moved_pool (words_for capacity) more rows.pool further.pool is.pool;
  taken = moved_taken (words_for capacity) more rows.pool further.pool is.pool;
}

pub wide_for : (width more : ℕ) (p : Pool) (pool : Option Pool) → IsPoolFor width more p pool → ((pool_or p pool).width ≡ width) × (more ≤ (pool_or p pool).spare)
wide_for width more p None is = is
wide_for width more p (Some wider) (wide, rows, spare) = (wide, spare)

-- no number goes when an instance comes
pub capacity_grows : (old : Numbered) (edit : Edit) (capacity : ℕ) → MakesInstance edit → IsNodeCapacityAfter old edit capacity → length old.nodes ≤ capacity
capacity_grows old (Create name class) capacity _ (c, events, names, are, is) = (let e = is in omega arith)
capacity_grows old (Delete name) capacity none is = absurd none
capacity_grows old (Link a rel b) capacity none is = absurd none
capacity_grows old (Unlink a rel b) capacity none is = absurd none
capacity_grows old (Mute event name) capacity none is = absurd none
capacity_grows old (Unmute event name) capacity none is = absurd none

-- the events of the class of a Create by numbers are all that a further instance brings
pub events_for : (n : Net) (edit : Edit) (c : ClassId) → WellTyped n.topology.model → IsNumberedEdit n edit (numbered.Create c) → (events : List EventId)
    → AreEventsOf n.topology.model c events → (count : ℕ) → count ≡ length events → HasEventsWithin n.topology.model edit count
events_for n (Create name class) c typed named events are count is = λ d other.
    let same : c ≡ d = named_class n.topology.model typed class c d named other in
    (events, subst (λ (k : ClassId). AreEventsOf n.topology.model k events) same are, (omega arith))
events_for n edit c typed other events are count is = absurd other

-- and any other edit brings none
pub no_events : (n : Net) (edit : Edit) (other : NumberedEdit) → IsNumberedEdit n edit other → ((c : ClassId) → other ≢ numbered.Create c)
    → HasEventsWithin n.topology.model edit 0
no_events n (Create name class) (numbered.Create c) is none = absurd (none c refl)
no_events n (Create name class) other is none = absurd is
no_events n edit other is none = tt

-- and there is a number for each event of the instance
pub events_fit : (old : Numbered) → WellTyped (topology_of old).model → (edit : Edit) (capacity : ℕ) → MakesInstance edit → IsNodeCapacityAfter old edit capacity → HasEventsWithin (topology_of old).model edit capacity
events_fit old typed (Create name class) capacity _ (c, events, names, are, is) = λ d named.
    let same : c ≡ d = named_class (topology_of old).model typed class c d names named in
    (events, subst (λ (k : ClassId). AreEventsOf (topology_of old).model k events) same are, (let e = is in omega arith))
events_fit old typed (Delete name) capacity none is = absurd none
events_fit old typed (Link a rel b) capacity none is = absurd none
events_fit old typed (Unlink a rel b) capacity none is = absurd none
events_fit old typed (Mute event name) capacity none is = absurd none
events_fit old typed (Unmute event name) capacity none is = absurd none

-- what is known of rows in their new places, with the list of new problems
pub record FitsIn (old new : Numbered) (edit : Edit) (slots : List (Option Slot)) (mid : Pool) (ids : List NodeId) : Type 0 where
  pub rows : AreRows new slots mid
  pub apart : OwnSlots slots
  pub none : HaveNoSlots slots ids
  pub live : All (IsLiveNode new) ids
  pub right : (after_slots : List (Option Slot)) (after : Pool) → AddsRows new ids slots after_slots mid after → AreRight new after_slots after
  pub within : (steps new_steps : ℕ) → CostAtMost new ids steps new_steps → CountsAtMost (IsEditCost (topology_of old) edit (topology_of new)) steps new_steps

pub fits_in : (old new : Numbered) (edit : Edit) → MakesInstance edit → IsEdited old edit new → (slots new_slots : List (Option Slot)) (p mid : Pool) → AreRight old slots p → AreMoved slots new_slots p mid
    → (ids : List NodeId) → AreOnce ids → ((id : NodeId) → Contains ids id ↔ IsNewProblem new edit id) → FitsIn old new edit new_slots mid ids
fits_in old new (Create name class) _ edited slots new_slots p mid right moved ids once listed = record {
  rows = moved_rows old new name class edited slots new_slots p mid right moved ids once listed;
  apart = moved_apart old new name class edited slots new_slots p mid right moved ids once listed;
  none = none_new old new name class edited slots new_slots p mid right moved ids once listed;
  live = new_live old new name class edited slots new_slots p mid right moved ids once listed;
  right = right_created old new name class edited slots new_slots p mid right moved ids once listed;
  within = within_new old new name class edited slots new_slots p mid right moved ids once listed;
}
fits_in old new (Delete name) none edited slots new_slots p mid right moved ids once listed = absurd none
fits_in old new (Link a rel b) none edited slots new_slots p mid right moved ids once listed = absurd none
fits_in old new (Unlink a rel b) none edited slots new_slots p mid right moved ids once listed = absurd none
fits_in old new (Mute event name) none edited slots new_slots p mid right moved ids once listed = absurd none
fits_in old new (Unmute event name) none edited slots new_slots p mid right moved ids once listed = absurd none

-- what is enough is enough with more
pub more_within : (tables : Tables) (edit : Edit) (few many : ℕ) → HasEventsWithin tables edit few → few ≤ many → HasEventsWithin tables edit many
more_within tables (Create name class) few many within low = λ c names. let (events, are, short) = within c names in (events, are, (omega arith))
more_within tables (Delete name) few many within low = tt
more_within tables (Link a rel b) few many within low = tt
more_within tables (Unlink a rel b) few many within low = tt
more_within tables (Mute event name) few many within low = tt
more_within tables (Unmute event name) few many within low = tt

right_spared : (n : Numbered) (slots : List (Option Slot)) (p q : Pool) → but_spare q ≡ but_spare p → AreRight n slots p → AreRight n slots q
right_spared n slots p q same right =
    let here : AreRows n slots (but_spare p) = right.rows in
    let there : AreRows n slots (but_spare q) = subst (λ (r : Pool). AreRows n slots r) (sym same) here in
    let owned : AreOwned slots (but_spare p) = right.owned in
    let owned_there : AreOwned slots (but_spare q) = subst (λ (r : Pool). AreOwned slots r) (sym same) owned in
    record { rows = there; only = right.only; all = right.all; apart = right.apart; owned = owned_there }

-- rows that are as they were but for what there is to spare are kept as well
pub kept_spared : (n : Numbered) (rows now : Rows) (agenda : Agenda) → AreButSpare rows now → IsCacheOf n record { rows = rows; agenda = agenda } → IsCacheOf n record { rows = now; agenda = agenda }
kept_spared n rows now agenda same kept =
    record {
      whole = kept.whole;
      right = subst (λ (v : Vec (Option Slot) Global). AreRight n v.items now.pool) (sym same.slots) (right_spared n rows.slots.items rows.pool now.pool same.pool kept.right);
      capacity = record {
        slots = ap (λ (v : Vec (Option Slot) Global). length v.items) same.slots ∙ kept.capacity.slots;
        width = ap (λ (q : Pool). q.width) same.pool ∙ kept.capacity.width;
        scratch = subst (λ (s : Scratch). HasCapacityFor (length n.nodes) s) (sym same.scratch) kept.capacity.scratch;
      };
      agenda = kept.agenda;
    }

-- All nodes in order, by the order of the instances and that of the events of each class.
use Rattle.std.proofs.Common.{◌≡◌, ◌≢◌, ℕ, ◌+◌, ◌-◌, ◌<◌, ◌≤◌, List, [], ◌∷◌, ◌++◌, length, map, get_or, slice_index_or, Some, refl, sym, ap, subst, ◌∙◌, inl, inr, arith}
use Rattle.std.specs.Prelude.{slice_get}
use Rattle.std.specs.Global.{Global}
use Rattle.std.specs.List.{All, AllPairs, Contains}
use Rattle.std.specs.List.Sorted.{IsPermutation, IsSortedBy}
use Rattle.std.specs.Ordering.{is_lt, ordering_reverse, ordering_then}
use Rattle.std.specs.declared.cmp.Ordering.{Ordering}
use Rattle.std.specs.declared.cmp.Ordering.TheVariants.{Less, Equal, Greater}
use Rattle.std.specs.declared.vec.Vec.{Vec}
use Rattle.std.proofs.lemmas.Bool.{cases_lt, cases_order}
use Rattle.std.proofs.lemmas.List.{length-map, length-append, length_push, get_or-map, get_or_append_left, get_or-append-add, map_push}
use Rattle.std.proofs.lemmas.List.Elements.{All-nil, All-append, All-push, All-weaker, All-map, All-contains, Contains-push, Contains-push_cases, Contains-append_left, Contains-append_right, Contains-get_or}
use Rattle.std.proofs.lemmas.List.Quantifiers.{all_pairs_push}
use Rattle.std.proofs.lemmas.List.Sorted.{All-permutation, Contains-permutation, IsPermutation-map, IsPermutation-sym}
use Rattle.std.proofs.lemmas.Option.{slice_get_within, slice_get-get_or}
use Rattle.cb_model.specs.declared.id.ClassId.{ClassId}
use Rattle.cb_model.specs.declared.id.EventId.{EventId}
use Rattle.cb_model.specs.declared.node.NodeName.{NodeName}
use Rattle.cb_model.specs.declared.tables.Tables.{Tables}
use Rattle.cb_model.specs.NodeOrder.{node_cmp}
use Rattle.cb_model.specs.Order.{name_cmp, Rises}
use Rattle.cb_model.specs.Views.{AreEventsOf}
use Rattle.cb_model.specs.WellTyped.{WellTyped}
use Rattle.cb_model.proofs.Numbers.{slice_get-push_before, slice_get-push_last}
use Rattle.cb_model.proofs.Rising.{name_cmp_total, name_cmp_exact, nothing_in_empty}
use Rattle.cb_network.specs.Edits.{node_name_of as name_of}
use Rattle.cb_network.specs.Topology.{HasClass}
use Rattle.cb_accept.proofs.Own.{event_is_listed, listed_is_event}
use Rattle.cb_instances.specs.declared.id.InstanceId.{InstanceId}
use Rattle.cb_instances.specs.Net.{Net, IsNamed, IsLiveInstance, HasEventAt, IsWholeNet, name_at, event_name, node_at}
use Rattle.cb_instances.proofs.Muting.{event_reported}
use Rattle.cb_instances.proofs.Placing.{same_id}
use Rattle.cb_nodes.specs.declared.id.NodeId.{NodeId}
use Rattle.cb_nodes.specs.declared.node.Node.{Node}
use Rattle.cb_nodes.specs.Table.{IsNode, NumbersEvent, node_of}
use Rattle.cb_topo.specs.declared.sorted.Named.{Named}
use Rattle.cb_topo.specs.Numbered.{Numbered, topology_of, IsNodeNamed, IsLiveNode, IsWhole}
use Rattle.cb_topo.specs.Settled.{IsBefore, AreRisingNodes, IsAt, IsSettled}
use Rattle.cb_topo.specs.Sorted.{name_given, id_named, AreInNameOrder, AreInstancesInOrder, AreEventsInOrder, AreEventsOfInstance, ListsNodesAt}
use Rattle.cb_topo.proofs.Naming.{name_is, name_of_node, has_event}
use Rattle.cb_topo.proofs.Sorting.{rises_sorted}

-- what is sorted by names that are unlike is in their order
pub in_order : {T : Type 0} (named sorted : List (Named T)) (ids : List T) → IsPermutation named sorted → AllPairs (λ a b. name_given a ≢ name_given b) named
    → IsSortedBy (λ a b. is_lt (name_cmp (name_given a) (name_given b))) sorted → ids ≡ map id_named sorted → AreInNameOrder named ids
in_order named sorted ids moved unlike by are = record {
  moved = sorted;
  same = moved;
  rise = rises_sorted name_given name_cmp_total name_cmp_exact named sorted moved unlike by;
  are = are;
}

-- where each has the name that is given, the names rise
named_rise : {T : Type 0} (name : T → List ℕ) (named : List (Named T)) → All (λ one. name one.id ≡ name_given one) named → Rises name_cmp (map name_given named)
    → AllPairs (λ a b. name_cmp (name a) (name b) ≡ Less) (map id_named named)
named_rise name [] each rise i j d lt within = absurd (omega arith)
named_rise {T} name (x ∷ xs) each rise i j d lt within =
    let ids = map id_named (x ∷ xs) in
    let names = map name_given (x ∷ xs) in
    let long = length-map (x ∷ xs) id_named in
    let as_long = length-map (x ∷ xs) name_given in
    let own : (k : ℕ) → k < length (x ∷ xs) → slice_index_or names k (name_given x) ≡ name (slice_index_or ids k d) = λ k below.
    get_or-map name_given (x ∷ xs) k x (name_given x) below ∙ (sym (each k x below) ∙ ap name (sym (get_or-map id_named (x ∷ xs) k x d below))) in
    subst (λ p. name_cmp p (name (slice_index_or ids j d)) ≡ Less) (own i (omega arith))
    (subst (λ q. name_cmp (slice_index_or names i (name_given x)) q ≡ Less) (own j (omega arith)) (rise i j (name_given x) lt (omega arith)))

-- these are the instances whose numbers are below k, with their names
pub record AreNamedBelow (net : Net) (k : ℕ) (named : List (Named InstanceId)) : Type 0 where
  pub below : All (λ one. one.id.0 < k) named
  pub each : All (λ one. IsNamed net one.id (name_given one)) named
  pub unlike : AllPairs (λ a b. name_given a ≢ name_given b) named
  pub all : (i : InstanceId) → i.0 < k → IsLiveInstance net i → Contains (map id_named named) i

pub none_below : (net : Net) → AreNamedBelow net 0 []
none_below net = record {
  below = All-nil (λ (one : Named InstanceId). one.id.0 < 0);
  each = All-nil (λ (one : Named InstanceId). IsNamed net one.id (name_given one));
  unlike = λ i j d lt within. absurd (omega arith);
  all = λ i below live. absurd (omega arith);
}

module _ (net : Net) (k : ℕ) (old : List (Named InstanceId)) (are : AreNamedBelow net k old) where
  still_below : All (λ one. one.id.0 < k + 1) old
  still_below = All-weaker (λ (one : Named InstanceId). one.id.0 < k) (λ (one : Named InstanceId). one.id.0 < k + 1) (λ one low. omega arith) old are.below

  -- the next number is that of no instance
  pub past_below : (id : InstanceId) → id.0 ≡ k → ¬ IsLiveInstance net id → AreNamedBelow net (k + 1) old
  past_below id here none = record {
    below = still_below;
    each = are.each;
    unlike = are.unlike;
    all = λ i low live. elim (cases_order i.0 k) [
      | inl same ↦ absurd (none (subst (IsLiveInstance net) (same_id i id (same ∙ sym here)) live))
      | inr (inl early) ↦ are.all i early live
      | inr (inr late) ↦ absurd (omega arith)
    ];
  }

  -- the next number is that of an instance
  pub more_below : IsWholeNet net → (one : Named InstanceId) → one.id.0 ≡ k → IsNamed net one.id (name_given one) → AreNamedBelow net (k + 1) (old ++ one ∷ [])
  more_below whole one here is = record {
    below = All-push (λ (one : Named InstanceId). one.id.0 < k + 1) old one still_below (omega arith);
    each = All-push (λ (one : Named InstanceId). IsNamed net one.id (name_given one)) old one are.each is;
    unlike = all_pairs_push (λ a b. name_given a ≢ name_given b) old one are.unlike (λ i d lt same.
        let was = slice_index_or old i d in
        let number = whole.one was.id one.id (name_given one) (subst (IsNamed net was.id) same (are.each i d lt)) is in
        let low = are.below i d lt in
        let equal = ap (λ (id : InstanceId). id.0) number in
        omega arith);
    all = λ i low live. subst (λ ids. Contains ids i) (sym (map_push id_named old one)) (elim (cases_order i.0 k) [
      | inl same ↦ subst (Contains (map id_named old ++ one.id ∷ [])) (same_id one.id i (here ∙ sym same)) (Contains-push (map id_named old) one.id)
      | inr (inl early) ↦ Contains-append_left (map id_named old) (one.id ∷ []) i (are.all i early live)
      | inr (inr late) ↦ absurd (omega arith)
    ]);
  }

-- all numbers were gone through, and the names were sorted
pub instances_ordered : (net : Net) (k : ℕ) (named : List (Named InstanceId)) (ids : List InstanceId) → ((i : InstanceId) → IsLiveInstance net i → i.0 < k) → AreNamedBelow net k named
    → AreInNameOrder named ids → AreInstancesInOrder net ids
instances_ordered net k named ids below are order = subst (AreInstancesInOrder net) (sym order.are) (record {
  live = All-map (IsLiveInstance net) id_named order.moved (All-weaker (λ (one : Named InstanceId). IsNamed net one.id (name_given one)) (λ (one : Named InstanceId). IsLiveInstance net one.id)
      (λ one is. (name_given one, is)) order.moved each);
  rise = named_rise (name_at net) order.moved (All-weaker (λ (one : Named InstanceId). IsNamed net one.id (name_given one)) (λ (one : Named InstanceId). name_at net one.id ≡ name_given one)
      (λ one is. name_is net one.id (name_given one) is) order.moved each) order.rise;
  all = λ i live. Contains-permutation (map id_named named) (map id_named order.moved) i (IsPermutation-map id_named named order.moved order.same) (are.all i (below i live) live);
})
  where
    each : All (λ (one : Named InstanceId). IsNamed net one.id (name_given one)) order.moved
    each = All-permutation (λ (one : Named InstanceId). IsNamed net one.id (name_given one)) named order.moved order.same are.each

-- these are the events that were taken, with their names
pub record AreNamedEvents (tables : Tables) (taken : List EventId) (named : List (Named EventId)) : Type 0 where
  pub ids : map id_named named ≡ taken
  pub each : All (λ one. event_name tables one.id ≡ name_given one) named

pub no_named_events : (tables : Tables) → AreNamedEvents tables [] []
no_named_events tables = record { ids = refl; each = All-nil (λ (one : Named EventId). event_name tables one.id ≡ name_given one) }

pub more_named_events : (tables : Tables) (taken : List EventId) (named : List (Named EventId)) (one : Named EventId) → AreNamedEvents tables taken named
    → event_name tables one.id ≡ name_given one → AreNamedEvents tables (taken ++ one.id ∷ []) (named ++ one ∷ [])
more_named_events tables taken named one are is = record {
  ids = map_push id_named named one ∙ ap (λ ids. ids ++ one.id ∷ []) are.ids;
  each = All-push (λ (one : Named EventId). event_name tables one.id ≡ name_given one) named one are.each is;
}

module _ (tables : Tables) (typed : WellTyped tables) (c : ClassId) (events : List EventId) (are_events : AreEventsOf tables c events) (named : List (Named EventId)) (are : AreNamedEvents tables events named) where
  -- events of one class have names that are unlike
  pub events_unlike : AllPairs (λ a b. name_given a ≢ name_given b) named
  events_unlike i j d lt within same =
      let own = subst (AreEventsOf tables c) (sym are.ids) are_events in
      let a = slice_index_or named i d in
      let b = slice_index_or named j d in
      let long = length-map named id_named in
      let as_long = length-map (map id_named named) (λ (e : EventId). e.0) in
      let a_is = get_or-map id_named named i d d.id (omega arith) in
      let b_is = get_or-map id_named named j d d.id (omega arith) in
      let has_a = listed_is_event tables c (map id_named named) own a.id (subst (Contains (map id_named named)) a_is (Contains-get_or (map id_named named) i d.id (omega arith))) in
      let has_b = listed_is_event tables c (map id_named named) own b.id (subst (Contains (map id_named named)) b_is (Contains-get_or (map id_named named) j d.id (omega arith))) in
      let one = event_reported tables typed c a.id b.id has_a has_b (are.each i d (omega arith) ∙ (same ∙ sym (are.each j d within))) in
      let low = own.rising i j d.id.0 lt (omega arith) in
      let a_number = get_or-map (λ (e : EventId). e.0) (map id_named named) i d.id d.id.0 (omega arith) ∙ ap (λ (e : EventId). e.0) a_is in
      let b_number = get_or-map (λ (e : EventId). e.0) (map id_named named) j d.id d.id.0 (omega arith) ∙ ap (λ (e : EventId). e.0) b_is in
      let equal = ap (λ (e : EventId). e.0) one in
      omega arith

  pub events_ordered : (ids : List EventId) → AreInNameOrder named ids → AreEventsInOrder tables c ids
  events_ordered ids order = subst (AreEventsInOrder tables c) (sym order.are) (record {
    rise = named_rise (event_name tables) order.moved (All-permutation (λ (one : Named EventId). event_name tables one.id ≡ name_given one) named order.moved order.same are.each) order.rise;
    exactly = λ e. (
      λ there. listed_is_event tables c events are_events e (subst (λ es. Contains es e) are.ids
          (Contains-permutation (map id_named order.moved) (map id_named named) e (IsPermutation-sym (map id_named named) (map id_named order.moved) shuffled) there)),
      λ has. Contains-permutation (map id_named named) (map id_named order.moved) e shuffled
          (subst (λ es. Contains es e) (sym are.ids) (event_is_listed tables c events are_events e has)),
    );
  })
    where
      shuffled : IsPermutation (map id_named named) (map id_named order.moved)
      shuffled = IsPermutation-map id_named named order.moved order.same

-- there is a list of each of the first k classes
pub record AreEventsOfFirst (tables : Tables) (k : ℕ) (lists : List (Vec EventId Global)) : Type 0 where
  pub each : (c : ClassId) (events : Vec EventId Global) → slice_get lists c.0 ≡ Some events → AreEventsInOrder tables c events.items
  pub all : length lists ≡ k

pub more_lists : (tables : Tables) (k : ℕ) (lists : List (Vec EventId Global)) (new : Vec EventId Global) → AreEventsOfFirst tables k lists
    → AreEventsInOrder tables (record { 0 = k }) new.items → AreEventsOfFirst tables (k + 1) (lists ++ new ∷ [])
more_lists tables k lists new are ordered = record {
  each = λ c events is. elim (cases_lt c.0 k) [
    | inl early ↦
        let there = slice_get-get_or lists c.0 new (omega (arith, early, are.all)) in
        are.each c events (there ∙ (sym (slice_get-push_before lists c.0 new (get_or lists c.0 new) there) ∙ is))
    | inr late ↦
        let within = slice_get_within (lists ++ new ∷ []) c.0 events is in
        let here : k ≡ c.0 = omega (arith, late, within, length_push lists new, are.all) in
        let same : new ≡ events = cc (sym (slice_get-push_last lists c.0 new (are.all ∙ here)) ∙ is) in
        let class : record { 0 = k } ≡ c = ap (λ j. let id : ClassId = record { 0 = j } in id) here in
        subst (λ (v : Vec EventId Global). AreEventsInOrder tables c v.items) same (subst (λ (d : ClassId). AreEventsInOrder tables d new.items) class ordered)
  ];
  all = omega (arith, length_push lists new, are.all);
}

-- a name ties with itself
ties_itself : (x : List ℕ) → name_cmp x x ≡ Equal
ties_itself x = go (name_cmp x x) refl
  where
    go : (o : Ordering) → name_cmp x x ≡ o → name_cmp x x ≡ Equal
    go Less is = let turned : Less ≡ Greater = sym is ∙ (name_cmp_total.antisymm x x ∙ ap ordering_reverse is) in absurd (cc)
    go Equal is = is
    go Greater is = let turned : Greater ≡ Less = sym is ∙ (name_cmp_total.antisymm x x ∙ ap ordering_reverse is) in absurd (cc)

-- names are ordered by their instances first
by_instances : (x y : NodeName) → name_cmp x.instance y.instance ≡ Less → node_cmp x y ≡ Less
by_instances x y less = subst (λ o. ordering_then o (name_cmp x.event y.event) ≡ Less) (sym less) refl

-- and at one instance by their events
by_events : (instance event other : List ℕ) → name_cmp event other ≡ Less → node_cmp (name_of event instance) (name_of other instance) ≡ Less
by_events instance event other less = subst (λ o. ordering_then o (name_cmp event other) ≡ Less) (sym (ties_itself instance)) less

module _ (n : Numbered) where
  before_by : (a b : NodeId) (x y : Node) → IsNode n.nodes a x → IsNode n.nodes b y → node_cmp (node_at n.net x.instance x.event) (node_at n.net y.instance y.event) ≡ Less → IsBefore n a b
  before_by a b x y is_a is_b less p q is_p is_q =
      subst (λ r. node_cmp r q ≡ Less) (name_of_node n a x p is_a is_p) (subst (λ r. node_cmp (node_at n.net x.instance x.event) r ≡ Less) (name_of_node n b y q is_b is_q) less)

  -- nodes at two instances, the first of which has the lower name
  apart_before : (i j : InstanceId) (a b : NodeId) → IsAt n i a → IsAt n j b → name_cmp (name_at n.net i) (name_at n.net j) ≡ Less → IsBefore n a b
  apart_before i j a b (x, is_a, at_i) (y, is_b, at_j) less =
      before_by a b x y is_a is_b (by_instances (node_at n.net x.instance x.event) (node_at n.net y.instance y.event)
      (subst (λ k. name_cmp (name_at n.net k) (name_at n.net y.instance) ≡ Less) (sym at_i) (subst (λ k. name_cmp (name_at n.net i) (name_at n.net k) ≡ Less) (sym at_j) less)))

  -- of the events that were taken, these are the nodes at the instance
  pub record AreNodesOfEvents (i : InstanceId) (taken : List EventId) (ids : List NodeId) : Type 0 where
    pub rising : AreRisingNodes n ids
    pub each : All (λ id. (e : EventId) × Contains taken e × IsNode n.nodes id (node_of i e)) ids
    pub all : (id : NodeId) (e : EventId) → Contains taken e → IsNode n.nodes id (node_of i e) → Contains ids id

  pub no_events : (i : InstanceId) → AreNodesOfEvents i [] []
  no_events i = record {
    rising = record { live = All-nil (IsLiveNode n); rise = λ i j d lt within. absurd (omega arith) };
    each = All-nil (λ (id : NodeId). (e : EventId) × Contains [] e × IsNode n.nodes id (node_of i e));
    all = λ id e there is. absurd (nothing_in_empty e there);
  }

  module _ (i : InstanceId) (taken : List EventId) (ids : List NodeId) (are : AreNodesOfEvents i taken ids) (e : EventId) where
    abbrev IsOfTaken : NodeId → Type 0
    IsOfTaken id = (f : EventId) × Contains (taken ++ e ∷ []) f × IsNode n.nodes id (node_of i f)

    still : All IsOfTaken ids
    still = All-weaker (λ (id : NodeId). (f : EventId) × Contains taken f × IsNode n.nodes id (node_of i f)) IsOfTaken
        (λ id (f, there, is). (f, Contains-append_left taken (e ∷ []) f there, is)) ids are.each

    pub past_event : ¬ NumbersEvent n.nodes i e → AreNodesOfEvents i (taken ++ e ∷ []) ids
    past_event none = record {
      rising = are.rising;
      each = still;
      all = λ id f there is. elim (Contains-push_cases taken e f there) [
        | inl early ↦ are.all id f early is
        | inr same ↦ absurd (none (id, subst (λ g. IsNode n.nodes id (node_of i g)) (sym same) is))
      ];
    }

    pub more_events : IsWhole n → (id : NodeId) → IsNode n.nodes id (node_of i e) → ((f : EventId) → Contains taken f → name_cmp (event_name (topology_of n).model f) (event_name (topology_of n).model e) ≡ Less)
        → AreNodesOfEvents i (taken ++ e ∷ []) (ids ++ id ∷ [])
    more_events whole id is before = record {
      rising = record {
        live = All-push (IsLiveNode n) ids id are.rising.live (whole.node_named id (node_of i e) is);
        rise = all_pairs_push (IsBefore n) ids id are.rising.rise (λ k d lt.
            let (f, there, its) = are.each k d lt in
            before_by (slice_index_or ids k d) id (node_of i f) (node_of i e) its is
            (by_events (name_at n.net i) (event_name (topology_of n).model f) (event_name (topology_of n).model e) (before f there)));
      };
      each = All-push IsOfTaken ids id still (e, Contains-push taken e, is);
      all = λ k f there its. elim (Contains-push_cases taken e f there) [
        | inl early ↦ Contains-append_left ids (id ∷ []) k (are.all k f early its)
        | inr same ↦
            let (x, named) = whole.node_named id (node_of i e) is in
            let (y, named_k) = whole.node_named k (node_of i f) its in
            let here = subst (λ g. IsNode n.nodes k (node_of i g)) (sym same) its in
            let one = whole.one id k x named (subst (IsNodeNamed n k) (sym (name_of_node n k (node_of i e) y here named_k) ∙ name_of_node n id (node_of i e) x is named) named_k) in
            subst (Contains (ids ++ id ∷ [])) one (Contains-push ids id)
      ];
    }

  -- all events of the instance were taken
  pub all_events : IsWhole n → (i : InstanceId) (events : List EventId) (old new ids : List NodeId) → AreEventsOfInstance n i events → AreNodesOfEvents i events ids → new ≡ old ++ ids
      → ListsNodesAt n i old new
  all_events whole i events old new ids of_instance are listed = record {
    ids = ids;
    rising = are.rising;
    exactly = λ id. (
      λ there.
          let (e, _, is) = All-contains (λ (id : NodeId). (e : EventId) × Contains events e × IsNode n.nodes id (node_of i e)) ids id are.each there in
          (node_of i e, is, refl),
      λ (node, is, at).
          let has = subst (λ k. HasEventAt n.net k node.event) at (whole.had id node is) in
          let same : node ≡ node_of i node.event = λ k. record { instance = at k; event = node.event } in
          are.all id node.event ((of_instance.exactly node.event).1 has) (subst (IsNode n.nodes id) same is),
    );
    listed = listed;
  }

  -- of the instances that were taken, these are the nodes
  pub record AreNodesOfInstances (taken : List InstanceId) (ids : List NodeId) : Type 0 where
    pub rising : AreRisingNodes n ids
    pub each : All (λ id. (i : InstanceId) × Contains taken i × IsAt n i id) ids
    pub all : (i : InstanceId) (id : NodeId) → Contains taken i → IsAt n i id → Contains ids id

  pub no_instances : AreNodesOfInstances [] []
  no_instances = record {
    rising = record { live = All-nil (IsLiveNode n); rise = λ i j d lt within. absurd (omega arith) };
    each = All-nil (λ (id : NodeId). (i : InstanceId) × Contains [] i × IsAt n i id);
    all = λ i id there at. absurd (nothing_in_empty i there);
  }

  -- the node is at one of these instances
  abbrev IsAtOne : List InstanceId → NodeId → Type 0
  IsAtOne instances id = (i : InstanceId) × Contains instances i × IsAt n i id

  pub more_instances : (taken : List InstanceId) (old new : List NodeId) (i : InstanceId) → AreNodesOfInstances taken old
      → ((j : InstanceId) → Contains taken j → name_cmp (name_at n.net j) (name_at n.net i) ≡ Less) → ListsNodesAt n i old new → AreNodesOfInstances (taken ++ i ∷ []) new
  more_instances taken old new i are before lists = subst (AreNodesOfInstances (taken ++ i ∷ [])) (sym lists.listed) (record {
    rising = record {
      live = All-append (IsLiveNode n) old lists.ids are.rising.live lists.rising.live;
      rise = pairs_append (IsBefore n) old lists.ids are.rising.rise lists.rising.rise (λ a b in_old in_new.
          let (j, there, at_j) = All-contains (IsAtOne taken) old a are.each in_old in
          apart_before j i a b at_j ((lists.exactly b).0 in_new) (before j there));
    };
    each = All-append (IsAtOne (taken ++ i ∷ [])) old lists.ids
        (All-weaker (IsAtOne taken) (IsAtOne (taken ++ i ∷ [])) (λ id (j, there, at). (j, Contains-append_left taken (i ∷ []) j there, at)) old are.each)
        (λ k d lt. (i, Contains-push taken i, (lists.exactly (slice_index_or lists.ids k d)).0 (Contains-get_or lists.ids k d lt)));
    all = λ j id there at. elim (Contains-push_cases taken i j there) [
      | inl early ↦ Contains-append_left old lists.ids id (are.all j id early at)
      | inr same ↦ Contains-append_right old lists.ids id ((lists.exactly id).1 (subst (λ k. IsAt n k id) (sym same) at))
    ];
  })
    where
      pairs_append : (R : NodeId → NodeId → Type 0) (xs ys : List NodeId) → AllPairs R xs → AllPairs R ys → ((a b : NodeId) → Contains xs a → Contains ys b → R a b) → AllPairs R (xs ++ ys)
      pairs_append R xs ys first second across i j d lt within =
          let long = length-append xs ys in
          elim (cases_lt j (length xs)) [
            | inl early ↦
                subst (λ a. R a (slice_index_or (xs ++ ys) j d)) (sym (get_or_append_left xs ys d i (omega arith)))
                (subst (R (slice_index_or xs i d)) (sym (get_or_append_left xs ys d j early)) (first i j d lt early))
            | inr late ↦
                let high : slice_index_or (xs ++ ys) j d ≡ slice_index_or ys (j - length xs) d = get_late xs ys j d late in
                elim (cases_lt i (length xs)) [
                  | inl low ↦
                      subst (λ a. R a (slice_index_or (xs ++ ys) j d)) (sym (get_or_append_left xs ys d i low))
                      (subst (R (slice_index_or xs i d)) (sym high) (across (slice_index_or xs i d) (slice_index_or ys (j - length xs) d) (Contains-get_or xs i d low) (Contains-get_or ys (j - length xs) d (omega arith))))
                  | inr both ↦
                      subst (λ a. R a (slice_index_or (xs ++ ys) j d)) (sym (get_late xs ys i d both))
                      (subst (R (slice_index_or ys (i - length xs) d)) (sym high) (second (i - length xs) (j - length xs) d (omega arith) (omega arith)))
                ]
          ]
        where
          get_late : (xs ys : List NodeId) (k : ℕ) (d : NodeId) → length xs ≤ k → slice_index_or (xs ++ ys) k d ≡ slice_index_or ys (k - length xs) d
          get_late xs ys k d late =
              let back : k ≡ length xs + (k - length xs) = omega arith in
              ap (λ m. slice_index_or (xs ++ ys) m d) back ∙ get_or-append-add xs ys (k - length xs) d

  -- all instances were taken
  pub all_instances : (instances : List InstanceId) (ids : List NodeId) → AreInstancesInOrder n.net instances → AreNodesOfInstances instances ids → IsSettled n ids
  all_instances instances ids order are = record {
    rising = are.rising;
    all = λ id (name, named). are.all named.node.instance id (order.all named.node.instance (name.instance, named.instance)) (named.node, named.is, refl);
  }

-- an instance has the events of its class
pub of_instance : (n : Numbered) (i : InstanceId) (c : ClassId) (events : List EventId) → HasClass (topology_of n) (name_at n.net i) c → AreEventsInOrder (topology_of n).model c events → AreEventsOfInstance n i events
of_instance n i c events of_class order = record {
  rise = order.rise;
  exactly = λ e. (
    λ there. (c, of_class, (order.exactly e).0 there),
    λ has. (order.exactly e).1 (has_event n.net i c e of_class has),
  );
}

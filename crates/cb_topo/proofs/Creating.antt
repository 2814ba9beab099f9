-- A new instance, and numbers for its events.
use Rattle.std.proofs.Common.{◌≡◌, ◌≢◌, ◌⊎◌, ℕ, ◌+◌, ◌≤◌, max, List, length, Option, Some, None, refl, sym, ap, subst, ◌∙◌, inl, inr, arith}
use Rattle.std.proofs.lemmas.Bool.{cases_order}
use Rattle.cb_model.specs.declared.id.ClassId.{ClassId}
use Rattle.cb_model.specs.declared.id.EventId.{EventId}
use Rattle.cb_model.specs.Classes.{HasEvent, NamesClass}
use Rattle.cb_model.specs.Views.{AreEventsOf}
use Rattle.cb_model.specs.WellTyped.{WellTyped, IsClass}
use Rattle.cb_model.proofs.Rising.{name_cmp_total, name_cmp_exact}
use Rattle.cb_network.specs.Topology.{Topology, IsLive as IsLiveName, HasClass}
use Rattle.cb_network.specs.Nodes.{IsNodeOf, IsCount, IsBeyond}
use Rattle.cb_network.specs.Sound.{node_limit}
use Rattle.cb_network.specs.Edits.{with_instance, Changes, IsAccepted}
use Rattle.cb_network.proofs.Kept.{live_of}
use Rattle.cb_network.proofs.Sets.{got_insert}
use Rattle.cb_instances.specs.declared.id.InstanceId.{InstanceId}
use Rattle.cb_instances.specs.Net.{Net, slot, IsNamed, IsLiveInstance, IsFree, SetsOnly, Creates, HasEventAt, IsWholeNet, name_at}
use Rattle.cb_instances.proofs.Placing.{decide_id}
use Rattle.cb_nodes.specs.declared.id.NodeId.{NodeId}
use Rattle.cb_nodes.specs.declared.node.Node.{Node}
use Rattle.cb_nodes.specs.Table.{Table, IsNode, NumbersEvent as HasEventIn, IsOne, Adds, count_of}
use Rattle.cb_accept.proofs.Own.{event_is_listed, listed_is_event}
use Rattle.cb_topo.specs.Applied.{KeepsInstances, KeepsNodes}
use Rattle.cb_topo.specs.Kept.{FitsTable, IsTopologyOf}
use Rattle.cb_topo.specs.Made.{Makes}
use Rattle.cb_network.proofs.Typed.{typed_is_regular}
use Rattle.cb_accept.specs.declared.counts.NodeCounts.{NodeCounts}
use Rattle.cb_accept.specs.Counts.{CountWith}
use Rattle.cb_nodes.specs.Created.{AddsAll}
use Rattle.cb_network.specs.declared.edit.Edit.TheVariants.{Create}
use Rattle.cb_network.specs.declared.edit.EditRefusal.TheVariants.{Exists, NodeLimit}
use Rattle.cb_network.proofs.Accepted.{edit_keeps_sound}
use Rattle.cb_text.specs.Names.{IsInstance}
use Rattle.std.proofs.lemmas.Option.{slice_get_within}
use Rattle.cb_topo.proofs.Counted.{fits_count}
use Rattle.cb_topo.proofs.Named.{name_is, one_class_of}

-- the net with the instance, whose names, capacity and next number are these
abbrev pub created : Net → List ℕ → ClassId → List (Option (List ℕ)) → ℕ → ℕ → Net
created n name c names capacity next = record { topology = with_instance n.topology name c; names = names; capacity = capacity; next = next }

-- of new instances, those before stay
module _ (t : Topology) (name : List ℕ) (c : ClassId) (fresh : ¬ IsLiveName t name) where
  pub class_stays : (q : List ℕ) (d : ClassId) → HasClass t q d → HasClass (with_instance t name c) q d
  class_stays q d is =
      (got_insert name_cmp_total name_cmp_exact t.instances name c q d).1
      (inr (λ e. fresh (live_of t name d (subst (λ n. HasClass t n d) e is)), is))

  pub class_before : (q : List ℕ) (d : ClassId) → HasClass (with_instance t name c) q d → ((q ≡ name) × (c ≡ d)) ⊎ HasClass t q d
  class_before q d is = elim ((got_insert name_cmp_total name_cmp_exact t.instances name c q d).0 is) [
    | inl now ↦ inl now
    | inr was ↦ inr was.1
  ]

  pub class_new : HasClass (with_instance t name c) name c
  class_new = (got_insert name_cmp_total name_cmp_exact t.instances name c name c).1 (inl (refl, refl))

module _ (n : Net) (name : List ℕ) (c : ClassId) (names : List (Option (List ℕ))) (capacity next : ℕ) (id : InstanceId)
    (old_whole : IsWholeNet n) (fresh : ¬ IsLiveName n.topology name) (free : IsFree n id) (sets : SetsOnly n.names names id (Some name)) where
  abbrev new : Net
  new = created n name c names capacity next

  elsewhere : (i : InstanceId) (x : List ℕ) → IsNamed n i x → i ≢ id
  elsewhere i x is e = let f : None ≡ Some x = sym free ∙ (ap (λ (k : InstanceId). slot n.names k.0) (sym e) ∙ is) in cc

  pub named_stays : (i : InstanceId) (x : List ℕ) → IsNamed n i x → IsNamed new i x
  named_stays i x is = sets.others i (elsewhere i x is) ∙ is

  pub live_stays : (i : InstanceId) → IsLiveInstance n i → IsLiveInstance new i
  live_stays i (x, is) = (x, named_stays i x is)

  pub had_stays : (i : InstanceId) (e : EventId) → IsLiveInstance n i → HasEventAt n i e → HasEventAt new i e
  had_stays i e (x, is) (d, of_d, has) =
      let same : name_at n i ≡ name_at new i = name_is n i x is ∙ sym (name_is new i x (named_stays i x is)) in
      (d, subst (λ q. HasClass new.topology q d) same (class_stays n.topology name c fresh (name_at n i) d of_d), has)

  had_new : (e : EventId) → HasEvent n.topology.model c e → HasEventAt new id e
  had_new e has = (c, subst (λ q. HasClass new.topology q c) (sym (name_is new id name sets.this)) (class_new n.topology name c fresh), has)

  had_before : (i : InstanceId) (e : EventId) → i ≢ id → IsLiveInstance new i → HasEventAt new i e → IsLiveInstance n i × HasEventAt n i e
  had_before i e ne (x, is) (d, of_d, has) =
      let was : IsNamed n i x = sym (sets.others i ne) ∙ is in
      let same : name_at new i ≡ name_at n i = name_is new i x is ∙ sym (name_is n i x was) in
      let of_name : HasClass new.topology (name_at n i) d = subst (λ q. HasClass new.topology q d) same of_d in (
        (x, was),
        elim (class_before n.topology name c fresh (name_at n i) d of_name) [
          | inl here ↦ absurd (fresh (subst (IsLiveName n.topology) (sym (name_is n i x was) ∙ here.0) (old_whole.live i x was)))
          | inr old ↦ (d, old, has)
        ],
      )

  -- what an instance of the name has of events, its class has
  events_of_new : (e : EventId) → HasEventAt new id e → HasEvent n.topology.model c e
  events_of_new e (d, of_d, has) =
      let here : HasClass new.topology name d = subst (λ q. HasClass new.topology q d) (name_is new id name sets.this) of_d in
      let same : d ≡ c = one_class_of new.topology name d c here (class_new n.topology name c fresh) in
      subst (λ b. HasEvent n.topology.model b e) same has

  module _ (ns ms : Table) (fits : FitsTable n ns) (typed : WellTyped n.topology.model) (whole : IsWholeNet new) (one : IsOne ms)
      (events : List EventId) (are : AreEventsOf n.topology.model c events) (adds : Adds ns ms id events)
      (not_beyond : ¬ IsBeyond (IsNodeOf new.topology) node_limit) where
    live : (k : NodeId) (node : Node) → IsNode ms k node → IsLiveInstance new node.instance
    live k node is = elim (adds.each k node is) [
      | inl was ↦ live_stays node.instance (fits.live k node was)
      | inr now ↦ (name, subst (λ i. IsNamed new i name) (sym now.0) sets.this)
    ]

    had : (k : NodeId) (node : Node) → IsNode ms k node → HasEventAt new node.instance node.event
    had k node is = elim (adds.each k node is) [
      | inl was ↦ had_stays node.instance node.event (fits.live k node was) (fits.had k node was)
      | inr now ↦ subst (λ i. HasEventAt new i node.event) (sym now.0) (had_new node.event (listed_is_event n.topology.model c events are node.event now.1))
    ]

    all : (i : InstanceId) (e : EventId) → IsLiveInstance new i → HasEventAt new i e → HasEventIn ms i e
    all i e live_i has = elim (decide_id i id) [
      | inl same ↦
          let has_id = events_of_new e (subst (λ k. HasEventAt new k e) same has) in
          subst (λ k. HasEventIn ms k e) (sym same) (adds.all e (event_is_listed n.topology.model c events are e has_id))
      | inr other ↦
          let was = had_before i e other live_i has in
          let (k, is) = fits.all i e was.0 was.1 in
          (k, adds.kept k _ is)
    ]

    count : IsCount (IsNodeOf new.topology) (count_of ms)
    count = fits_count new ms typed whole one live had all

    -- the numbers stay below the limit, since the nodes do
    few : length ms ≤ node_limit
    few =
        let within : count_of ms ≤ node_limit = elim (cases_order (count_of ms) node_limit) [
          | inl e ↦ omega arith
          | inr (inl below) ↦ omega arith
          | inr (inr above) ↦ absurd (not_beyond (count_of ms, count, above))
        ] in
        let more = adds.count in
        let capacity = adds.capacity in
        let before = fits.few in
        limited (length ms) (length ns) (count_of ns + length events) node_limit capacity before (omega arith)
      where
        limited : (m a b limit : ℕ) → m ≡ max a b → a ≤ limit → b ≤ limit → m ≤ limit
        limited m a b limit is low_a low_b = omega arith

    pub created_fits : FitsTable new ms
    created_fits = record { one = one; live = live; had = had; all = all; few = few }

  pub keeps_instances : (ns ms : Table) → KeepsInstances (record { net = n; nodes = ns }) (record { net = new; nodes = ms })
  keeps_instances ns ms = λ i x is live. named_stays i x is

  pub keeps_nodes : (ns ms : Table) (events : List EventId) → Adds ns ms id events
      → KeepsNodes (record { net = n; nodes = ns }) (record { net = new; nodes = ms })
  keeps_nodes ns ms events adds = λ k q named is_node. record {
    node = named.node;
    is = adds.kept k named.node named.is;
    instance = named_stays named.node.instance q.instance named.instance;
    event = named.event;
  }

-- an accepted instance is made on the whole
pub create_makes : (n m : Net) (ns ms : Table) (counts counts' : NodeCounts) (name class : List ℕ) (c : ClassId) (id : InstanceId)
    → IsTopologyOf n ns counts → IsInstance name → IsAccepted n.topology (Create name class) → NamesClass n.topology.model class c
    → Creates n m id name c → AddsAll n c ns ms id → IsWholeNet m → IsOne ms → CountWith n.topology.model counts c counts'
    → Makes n ns (Create name class) m ms counts'
create_makes n m ns ms counts counts' name class c id kept good accepted named creates (events, are, adds) whole one with =
    let v : Net = created n name c m.names m.capacity m.next in
    let made = creates.made in
    let same : m ≡ v = λ i. record { topology = made i; names = m.names; capacity = m.capacity; next = m.next } in
    let fresh = accepted Exists in
    let changes : Changes n.topology (Create name class) v.topology = (c, named, refl) in
    let regular = typed_is_regular n.topology.model kept.typed in
    let new_whole = subst IsWholeNet same whole in
    let fits = created_fits n name c m.names m.capacity m.next id kept.whole fresh creates.free creates.named ns ms kept.table kept.typed new_whole one events are adds
    (λ many. accepted NodeLimit (v.topology, changes, many)) in
    let all : Makes n ns (Create name class) v ms counts' = record {
      applies = record {
        after = (accepted, changes);
        instances = keeps_instances n name c m.names m.capacity m.next id kept.whole fresh creates.free creates.named ns ms;
        nodes = keeps_nodes n name c m.names m.capacity m.next id kept.whole fresh creates.free creates.named ns ms events adds;
        node_capacity = (c, events, named, are, adds.capacity);
        instance_capacity = creates.capacity;
      };
      kept = record {
        sound = edit_keeps_sound n.topology v.topology (Create name class) regular good kept.sound (accepted, changes);
        typed = kept.typed;
        whole = new_whole;
        classed = λ q d is. elim (class_before n.topology name c fresh q d is) [
          | inl now ↦ subst (IsClass n.topology.model) now.1 (slice_get_within n.topology.model.classes c.0 named.0 named.1)
          | inr was ↦ kept.classed q d was
        ];
        table = fits;
        counted = with n.topology name refl fresh kept.counted;
      };
    } in
    subst (λ k. Makes n ns (Create name class) k ms counts') (sym same) all

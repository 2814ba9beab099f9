-- An instance that goes, with the numbers of its events.
use Rattle.std.proofs.Common.{◌≡◌, ◌≢◌, ℕ, ◌≤◌, zero, suc, List, [], ◌∷◌, length, Option, Some, None, refl, sym, ap, subst, ◌∙◌, arith}
use Rattle.std.specs.Prelude.{slice_set}
use Rattle.std.proofs.lemmas.List.{get_or-set_other}
use Rattle.cb_model.specs.declared.id.ClassId.{ClassId}
use Rattle.cb_model.specs.declared.id.EventId.{EventId}
use Rattle.cb_model.proofs.Rising.{name_cmp_total, name_cmp_exact}
use Rattle.cb_network.specs.Topology.{Topology, IsLive as IsLiveName, HasClass}
use Rattle.cb_network.specs.Edits.{without_instance, Changes, IsAccepted}
use Rattle.cb_network.specs.Sound.{node_limit}
use Rattle.cb_network.proofs.Kept.{class_of}
use Rattle.cb_network.proofs.Sets.{got_remove}
use Rattle.cb_instances.specs.declared.id.InstanceId.{InstanceId}
use Rattle.cb_instances.specs.Net.{Net, slot, IsNamed, IsLiveInstance, HasEventAt, IsWholeNet, name_at, net_without}
use Rattle.cb_nodes.specs.declared.id.NodeId.{NodeId}
use Rattle.cb_nodes.specs.declared.node.Node.{Node}
use Rattle.cb_nodes.specs.Table.{Table, IsNode, NumbersEvent as HasEventIn, IsOne, Removes}
use Rattle.cb_topo.specs.Applied.{KeepsInstances, KeepsNodes}
use Rattle.cb_topo.specs.Kept.{FitsTable, IsTopologyOf}
use Rattle.cb_topo.specs.Made.{Makes}
use Rattle.cb_network.proofs.Typed.{typed_is_regular}
use Rattle.cb_accept.specs.declared.counts.NodeCounts.{NodeCounts}
use Rattle.cb_accept.specs.Counts.{AreCounts, CountWithout}
use Rattle.cb_network.specs.declared.edit.Edit.TheVariants.{Delete}
use Rattle.cb_network.proofs.Accepted.{edit_keeps_sound}
use Rattle.cb_topo.proofs.Named.{name_is, named_at}
use Rattle.cb_instances.proofs.Placing.{same_id}

-- a place that is emptied has nothing
emptied : {X : Type 0} (xs : List (Option X)) (i : ℕ) → slot (slice_set xs i None) i ≡ None
emptied [] i = refl
emptied (x ∷ xs) zero = refl
emptied (x ∷ xs) (suc i) = emptied xs i

module _ (t : Topology) (name : List ℕ) where
  pub class_left : (q : List ℕ) (d : ClassId) → q ≢ name → HasClass t q d → HasClass (without_instance t name) q d
  class_left q d other is = (got_remove name_cmp_total name_cmp_exact t.instances name q d).1 (other, is)

  pub class_was : (q : List ℕ) (d : ClassId) → HasClass (without_instance t name) q d → (q ≢ name) × HasClass t q d
  class_was q d is = (got_remove name_cmp_total name_cmp_exact t.instances name q d).0 is

module _ (n : Net) (id : InstanceId) (here : IsLiveInstance n id) (whole : IsWholeNet n) where
  abbrev new : Net
  new = net_without n id

  abbrev gone : List ℕ
  gone = name_at n id

  named_was : (i : InstanceId) (x : List ℕ) → IsNamed new i x → (i ≢ id) × IsNamed n i x
  named_was i x is =
      let other : i ≢ id = λ e. let f : None ≡ Some x = sym (emptied n.names id.0) ∙ (ap (λ (k : InstanceId). slot new.names k.0) (sym e) ∙ is) in cc in
      (other, sym (kept i other) ∙ is)
    where
      kept : (i : InstanceId) → i ≢ id → slot new.names i.0 ≡ slot n.names i.0
      kept i other = get_or-set_other n.names id.0 i.0 None None (λ e. other (same_id i id e))

  named_stays : (i : InstanceId) (x : List ℕ) → i ≢ id → IsNamed n i x → IsNamed new i x
  named_stays i x other is = get_or-set_other n.names id.0 i.0 None None (λ e. other (same_id i id e)) ∙ is

  other_name : (i : InstanceId) (x : List ℕ) → i ≢ id → IsNamed n i x → x ≢ gone
  other_name i x other is e = other (whole.one i id gone (subst (IsNamed n i) e is) (named_at n id here))

  other_id : (i : InstanceId) (x : List ℕ) → x ≢ gone → IsNamed n i x → i ≢ id
  other_id i x other is e = other (sym (name_is n i x is) ∙ ap (name_at n) e)

  had_stays : (i : InstanceId) (e : EventId) → i ≢ id → IsLiveInstance n i → HasEventAt n i e → HasEventAt new i e
  had_stays i e other (x, is) (d, of_d, has) =
      let was : name_at n i ≡ x = name_is n i x is in
      let now : name_at new i ≡ x = name_is new i x (named_stays i x other is) in
      let left = class_left n.topology gone x d (other_name i x other is) (subst (λ q. HasClass n.topology q d) was of_d) in
      (d, subst (λ q. HasClass new.topology q d) (sym now) left, has)

  had_was : (i : InstanceId) (e : EventId) → IsLiveInstance new i → HasEventAt new i e → IsLiveInstance n i × HasEventAt n i e
  had_was i e (x, is) (d, of_d, has) =
      let was = named_was i x is in
      let now : name_at new i ≡ x = name_is new i x is in
      let old : name_at n i ≡ x = name_is n i x was.1 in
      let left = class_was n.topology gone x d (subst (λ q. HasClass new.topology q d) now of_d) in
      ((x, was.1), (d, subst (λ q. HasClass n.topology q d) (sym old) left.1, has))

  module _ (ns ms : Table) (fits : FitsTable n ns) (removes : Removes ns ms id) where
    one : IsOne ms
    one i j node at_i at_j = fits.one i j node ((removes.each i node).0 at_i).0 ((removes.each j node).0 at_j).0

    live : (k : NodeId) (node : Node) → IsNode ms k node → IsLiveInstance new node.instance
    live k node is =
        let was = (removes.each k node).0 is in
        let (x, named) = fits.live k node was.0 in
        (x, named_stays node.instance x was.1 named)

    had : (k : NodeId) (node : Node) → IsNode ms k node → HasEventAt new node.instance node.event
    had k node is =
        let was = (removes.each k node).0 is in
        had_stays node.instance node.event was.1 (fits.live k node was.0) (fits.had k node was.0)

    all : (i : InstanceId) (e : EventId) → IsLiveInstance new i → HasEventAt new i e → HasEventIn ms i e
    all i e (x, is) has =
        let was = had_was i e (x, is) has in
        let (k, node) = fits.all i e was.0 was.1 in
        (k, (removes.each k _).1 (node, (named_was i x is).0))

    few : length ms ≤ node_limit
    few = let before = fits.few in let same = removes.capacity in omega arith

    pub deleted_fits : FitsTable new ms
    deleted_fits = record { one = one; live = live; had = had; all = all; few = few }

  left_name : (x : List ℕ) → IsLiveName new.topology x → x ≢ gone
  left_name x live = let (d, is) = class_of new.topology x live in (class_was n.topology gone x d is).0

  pub keeps_instances : (ns ms : Table) → KeepsInstances (record { net = n; nodes = ns }) (record { net = new; nodes = ms })
  keeps_instances ns ms = λ i x is live. named_stays i x (other_id i x (left_name x live) is) is

  pub keeps_nodes : (ns ms : Table) → Removes ns ms id → KeepsNodes (record { net = n; nodes = ns }) (record { net = new; nodes = ms })
  keeps_nodes ns ms removes = λ k q named (e, at).
      let other = other_id named.node.instance q.instance (class_was n.topology gone q.instance at.class at.of_class).0 named.instance in
      record {
        node = named.node;
        is = (removes.each k named.node).1 (named.is, other);
        instance = named_stays named.node.instance q.instance other named.instance;
        event = named.event;
      }

-- an accepted delete is made on the whole
pub delete_makes : (n m : Net) (ns ms : Table) (counts counts' : NodeCounts) (name : List ℕ) (c : ClassId) (id : InstanceId)
    → IsTopologyOf n ns counts → IsAccepted n.topology (Delete name) → IsNamed n id name → HasClass n.topology name c → m ≡ net_without n id
    → Removes ns ms id → IsWholeNet m → CountWithout n.topology.model counts c counts' → Makes n ns (Delete name) m ms counts'
delete_makes n m ns ms counts counts' name c id kept accepted named of_class same removes whole less =
    let v : Net = net_without n id in
    let here : IsLiveInstance n id = (name, named) in
    let is : name_at n id ≡ name = name_is n id name named in
    let changes : Changes n.topology (Delete name) v.topology = ap (without_instance n.topology) is in
    let regular = typed_is_regular n.topology.model kept.typed in
    let new_whole = subst IsWholeNet same whole in
    let all : Makes n ns (Delete name) v ms counts' = record {
      applies = record {
        after = (accepted, changes);
        instances = keeps_instances n id here kept.whole ns ms;
        nodes = keeps_nodes n id here kept.whole ns ms removes;
        node_capacity = removes.capacity;
        instance_capacity = refl;
      };
      kept = record {
        sound = edit_keeps_sound n.topology v.topology (Delete name) regular tt kept.sound (accepted, changes);
        typed = kept.typed;
        whole = new_whole;
        classed = λ q d of_d. kept.classed q d (class_was n.topology (name_at n id) q d of_d).1;
        table = deleted_fits n id here kept.whole ns ms kept.table removes;
        counted = subst (λ t. AreCounts t counts') (ap (without_instance n.topology) (sym is)) (less n.topology name refl of_class kept.counted);
      };
    } in
    subst (λ k. Makes n ns (Delete name) k ms counts') (sym same) all

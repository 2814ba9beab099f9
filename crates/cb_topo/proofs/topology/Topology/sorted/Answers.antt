use Rattle.std.proofs.Common.{◌≡◌, ℕ, List, [], take, slice_index_or, refl, sym, subst, arith}
use Rattle.std.proofs.lemmas.List.{take_more, take_all}
use Rattle.cb_model.specs.declared.tables.Tables.{Tables}
use Rattle.cb_model.proofs.Numbers.{read_at}
use Rattle.cb_model.specs.Order.{name_cmp}
use Rattle.cb_network.specs.Topology.{HasClass}
use Rattle.cb_instances.specs.declared.id.InstanceId.{InstanceId}
use Rattle.cb_instances.specs.Net.{IsNamed, IsLiveInstance, name_at}
use Rattle.std.specs.declared.cmp.Ordering.TheVariants.{Less}
use Rattle.cb_topo.specs.Numbered.{Numbered, topology_of, IsWhole}
use Rattle.cb_topo.specs.Sorted.{AreInstancesInOrder, AreEventsOfClasses, AreEventsOfInstance}
use Rattle.cb_topo.proofs.ByNames.{AreNodesOfInstances, no_instances, more_instances, all_instances, of_instance}
use Rattle.cb_topo.proofs.Naming.{whole, is_named}
use Rattle.cb_topo.proofs.Rising.{before_next}
use Rattle.cb_topo.proofs.topology.Topology.sorted.Goals as goal

pub loop-instance-init : goal.loop-instance-init
loop-instance-init c = subst (AreNodesOfInstances c.args.self.now []) (sym c.new-nodes.ensures.items) (no_instances c.args.self.now)

pub class_of-class-requires : goal.class_of-class-requires
class_of-class-requires c =
    let zero : InstanceId = record { 0 = 0 } in
    let items = c.deref-instance-items.result.now in
    let order = subst (AreInstancesInOrder c.args.self.now.net) (sym c.deref-instance-items.ensures.value) c.in_ok-instances.ensures in
    let live = order.live c.loop-instance.instance-index zero c.loop-instance-test.true in
    subst (λ (m : Numbered). IsLiveInstance m.net (slice_index_or items c.loop-instance.instance-index zero)) (sym c.self.view_is) live

pub list_nodes-requires-clause-whole : goal.list_nodes-requires-clause-whole
list_nodes-requires-clause-whole c =
    let seen : Numbered = record { net = c.self.inside.net; nodes = c.self.inside.nodes } in
    subst IsWhole c.self.view_is (whole seen c.self.inside.counts c.self.invariant.topology)

pub list_nodes-requires-clause-events : goal.list_nodes-requires-clause-events
list_nodes-requires-clause-events c =
    let n = c.args.self.now in
    let zero : InstanceId = record { 0 = 0 } in
    let items = c.deref-instance-items.result.now in
    let id = slice_index_or items c.loop-instance.instance-index zero in
    let class = c.class_of-class.result in
    let lists = c.in_ok-events.events.items in
    let order = subst (AreInstancesInOrder n.net) (sym c.deref-instance-items.ensures.value) c.in_ok-instances.ensures in
    let live = order.live c.loop-instance.instance-index zero c.loop-instance-test.true in
    let of_any = subst (λ (m : Numbered). (name : List ℕ) → IsNamed m.net id name → HasClass m.net.topology name class) c.self.view_is c.class_of-class.ensures in
    let of_class = of_any (name_at n.net id) (is_named n.net id live) in
    let are_seen = subst (λ (t : Tables). AreEventsOfClasses t lists) c.model.ensures.value c.in_ok-events.ensures in
    let are = subst (λ (m : Numbered). AreEventsOfClasses (topology_of m).model lists) c.self.view_is are_seen in
    let live_seen = subst (λ (m : Numbered). IsLiveInstance m.net id) (sym c.self.view_is) live in
    let is_class = c.self.invariant.topology.classed (name_at c.self.inside.net id) class (c.class_of-class.ensures (name_at c.self.inside.net id) (is_named c.self.inside.net id live_seen)) in
    let there = read_at lists lists class.0 c.index.result.now refl (omega (arith, are_seen.all, is_class)) c.index.ensures in
    subst (AreEventsOfInstance n id) (sym c.deref.ensures.value) (of_instance n id class c.index.result.now.items of_class (are.each class c.index.result.now there))

pub index-requires : goal.index-requires
index-requires c =
    let zero : InstanceId = record { 0 = 0 } in
    let items = c.deref-instance-items.result.now in
    let id = slice_index_or items c.loop-instance.instance-index zero in
    let class = c.class_of-class.result in
    let lists = c.in_ok-events.events.items in
    let order = subst (AreInstancesInOrder c.args.self.now.net) (sym c.deref-instance-items.ensures.value) c.in_ok-instances.ensures in
    let live = order.live c.loop-instance.instance-index zero c.loop-instance-test.true in
    let live_seen = subst (λ (m : Numbered). IsLiveInstance m.net id) (sym c.self.view_is) live in
    let is_class = c.self.invariant.topology.classed (name_at c.self.inside.net id) class (c.class_of-class.ensures (name_at c.self.inside.net id) (is_named c.self.inside.net id live_seen)) in
    let are_seen = subst (λ (t : Tables). AreEventsOfClasses t lists) c.model.ensures.value c.in_ok-events.ensures in
    omega (arith, are_seen.all, is_class, c.in_ok-events.events.ok.0)

pub loop-instance-preserved : goal.loop-instance-preserved
loop-instance-preserved c =
    let n = c.args.self.now in
    let zero : InstanceId = record { 0 = 0 } in
    let items = c.deref-instance-items.result.now in
    let i = c.loop-instance.instance-index in
    let id = slice_index_or items i zero in
    let inside = c.loop-instance-test.true in
    let order = subst (AreInstancesInOrder n.net) (sym c.deref-instance-items.ensures.value) c.in_ok-instances.ensures in
    let before = before_next (λ a b. name_cmp (name_at n.net a) (name_at n.net b) ≡ Less) items i zero order.rise inside in
    subst (λ taken. AreNodesOfInstances n taken c.list_nodes.new.nodes.items) (sym (take_more items i zero inside))
    (more_instances n (take i items) c.loop-instance.nodes.items c.list_nodes.new.nodes.items id c.loop-instance.invariant before c.in_ok-list_nodes.ensures)

pub returns : goal.returns
returns c =
    let n = c.args.self.now in
    let items = c.deref-instance-items.result.now in
    let order = subst (AreInstancesInOrder n.net) (sym c.deref-instance-items.ensures.value) c.in_ok-instances.ensures in
    let all = take_all c.loop-instance.instance-index items c.loop-instance-test.false in
    all_instances n items c.loop-instance.nodes.items order (subst (λ taken. AreNodesOfInstances n taken c.loop-instance.nodes.items) all c.loop-instance.invariant)

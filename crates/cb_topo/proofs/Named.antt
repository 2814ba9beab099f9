-- Names by numbers.
use Rattle.std.proofs.Common.{◌≡◌, ℕ, List, Some, sym, ap, subst, ◌∙◌}
use Rattle.cb_model.specs.declared.id.ClassId.{ClassId}
use Rattle.cb_model.specs.declared.id.EventId.{EventId}
use Rattle.cb_model.specs.declared.node.NodeName.{NodeName}
use Rattle.cb_model.specs.declared.tables.Tables.{Tables}
use Rattle.cb_model.specs.Classes.{HasEvent, NamesEvent}
use Rattle.cb_model.specs.WellTyped.{WellTyped}
use Rattle.cb_network.specs.Topology.{Topology, HasClass}
use Rattle.cb_network.specs.Nodes.{IsEventAt}
use Rattle.cb_network.specs.Edits.{node_name_of as name_of}
use Rattle.cb_instances.specs.declared.id.InstanceId.{InstanceId}
use Rattle.cb_instances.specs.Net.{Net, IsNamed, IsLiveInstance, HasEventAt, IsWholeNet, name_or, name_at, name_in_row, event_name}
use Rattle.cb_nodes.specs.declared.node.Node.{Node}
use Rattle.cb_accept.proofs.Members.{one_event}

pub name_is : (net : Net) (id : InstanceId) (name : List ℕ) → IsNamed net id name → name_at net id ≡ name
name_is net id name is = ap name_or is

-- a number has one name
pub one_name : (net : Net) (id : InstanceId) (x y : List ℕ) → IsNamed net id x → IsNamed net id y → x ≡ y
one_name net id x y a b = sym (name_is net id x a) ∙ name_is net id y b

-- a live number has the name that is seen there
pub named_at : (net : Net) (id : InstanceId) → IsLiveInstance net id → IsNamed net id (name_at net id)
named_at net id (name, is) = subst (IsNamed net id) (sym (name_is net id name is)) is

pub event_name_is : (tables : Tables) (c : ClassId) (e : EventId) (has : HasEvent tables c e) → event_name tables e ≡ has.row.name
event_name_is tables c e has = ap name_in_row has.is

-- an instance is of one class
pub one_class_of : (t : Topology) (name : List ℕ) (c d : ClassId) → HasClass t name c → HasClass t name d → c ≡ d
one_class_of t name c d is is' =
    let e : Some c ≡ Some d = sym is ∙ is' in
    cc

-- an event of a live instance is a node
pub node_is : (net : Net) (id : InstanceId) (e : EventId) → HasEventAt net id e
    → IsEventAt net.topology (name_of (event_name net.topology.model e) (name_at net id)) e
node_is net id e (c, is, has) =
    record { class = c; of_class = is; named = (has, sym (event_name_is net.topology.model c e has)) }

-- an event that a node's name means
pub event_is : (net : Net) (id : InstanceId) (n : NodeName) (e : EventId) → IsNamed net id n.instance → IsEventAt net.topology n e
    → HasEventAt net id e × (event_name net.topology.model e ≡ n.event)
event_is net id n e named at = (
  (at.class, subst (λ name. HasClass net.topology name at.class) (sym (name_is net id n.instance named)) at.of_class, at.named.0),
  event_name_is net.topology.model at.class e at.named.0 ∙ at.named.1,
)

-- the name of a node
abbrev pub node_name : Net → Node → NodeName
node_name net node = name_of (event_name net.topology.model node.event) (name_at net node.instance)

-- nodes of live instances that have one name are one
pub same_node : (net : Net) → WellTyped net.topology.model → IsWholeNet net → (x y : Node) → IsLiveInstance net x.instance → IsLiveInstance net y.instance
    → HasEventAt net x.instance x.event → HasEventAt net y.instance y.event → node_name net x ≡ node_name net y → x ≡ y
same_node net typed whole x y live_x live_y (c, of_c, has_x) (d, of_d, has_y) same =
    let tables : Tables = net.topology.model in
    let names : name_at net x.instance ≡ name_at net y.instance = ap (λ (n : NodeName). n.instance) same in
    let events : event_name tables x.event ≡ event_name tables y.event = ap (λ (n : NodeName). n.event) same in
    let named_x = named_at net x.instance live_x in
    let named_y = subst (IsNamed net y.instance) (sym names) (named_at net y.instance live_y) in
    let instance : x.instance ≡ y.instance = whole.one x.instance y.instance (name_at net x.instance) named_x named_y in
    let class : d ≡ c = one_class_of net.topology (name_at net x.instance) d c (subst (λ n. HasClass net.topology n d) (sym names) of_d) of_c in
    let there : NamesEvent tables d (event_name tables x.event) y.event = (has_y, sym (event_name_is tables d y.event has_y) ∙ sym events) in
    let here : NamesEvent tables c (event_name tables x.event) x.event = (has_x, sym (event_name_is tables c x.event has_x)) in
    let event : x.event ≡ y.event = one_event tables typed c (event_name tables x.event) x.event y.event here
    (subst (λ b. NamesEvent tables b (event_name tables x.event) y.event) class there) in
    λ i. record { instance = instance i; event = event i }

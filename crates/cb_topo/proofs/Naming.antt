-- Names and numbers of nodes.
use Rattle.std.proofs.Common.{◌≡◌, ◌↔◌, ℕ, List, Bool, Option, Some, None, is_some, refl, sym, ap, subst, ◌∙◌}
use Rattle.std.specs.Prelude.{slice_get, IfSome, IfNone, IsTrue}
use Rattle.std.proofs.lemmas.Bool.{false≢true}
use Rattle.cb_model.specs.Classes.{HasEvent, NamesEvent, IsProblemOf, IsSymptomOf}
use Rattle.cb_model.specs.declared.id.ClassId.{ClassId}
use Rattle.cb_model.specs.declared.id.EventId.{EventId}
use Rattle.cb_model.specs.declared.node.NodeName.{NodeName}
use Rattle.cb_model.specs.declared.tables.EventRow.{EventRow}
use Rattle.cb_model.specs.declared.tables.Tables.{Tables}
use Rattle.cb_network.specs.Edits.{node_name_of as name_of}
use Rattle.cb_network.specs.Nodes.{IsNodeOf, IsEventAt, IsProblem, IsSymptomNode}
use Rattle.cb_network.specs.Topology.{Topology, HasClass}
use Rattle.cb_network.proofs.Counts.{Kind, IsAt, of_problems, of_symptoms, problems_are, symptoms_are}
use Rattle.cb_network.proofs.Kept.{live_of}
use Rattle.cb_instances.specs.declared.id.InstanceId.{InstanceId}
use Rattle.cb_instances.specs.Net.{Net, IsNamed, IsLiveInstance, HasEventAt, name_at, name_or, name_in_row, node_at, event_name}
use Rattle.cb_instances.proofs.Muting.{event_reported}
use Rattle.cb_instances.proofs.Showing.{same_inside}
use Rattle.cb_nodes.specs.declared.id.NodeId.{NodeId}
use Rattle.cb_nodes.specs.declared.node.Node.{Node}
use Rattle.cb_nodes.specs.Table.{IsNode, HasNumber, node_of}
use Rattle.cb_accept.specs.declared.counts.NodeCounts.{NodeCounts}
use Rattle.cb_topo.specs.Kept.{IsTopologyOf}
use Rattle.cb_topo.specs.Numbered.{Numbered, topology_of, IsNodeNamed, IsLiveNode, IsWhole}

-- what follows from what a clause says of a `None`
pub none_weaker : {A : Type 0} (r : Option A) (P Q : Type 0) → (P → Q) → IfNone r P → IfNone r Q
none_weaker None P Q also is = also is
none_weaker (Some x) P Q also is = tt

-- a name that an instance has is that at its number
pub name_is : (net : Net) (i : InstanceId) (name : List ℕ) → IsNamed net i name → name_at net i ≡ name
name_is net i name is = ap name_or is

-- a live instance has the name at its number
pub is_named : (net : Net) (i : InstanceId) → IsLiveInstance net i → IsNamed net i (name_at net i)
is_named net i (name, is) = is ∙ ap Some (sym (name_is net i name is))

-- the name of an event is that in its row
pub event_name_is : (tables : Tables) (e : EventId) (row : EventRow) → slice_get tables.events e.0 ≡ Some row → event_name tables e ≡ row.name
event_name_is tables e row is = ap name_in_row is

-- the class of the instance has its events
pub has_event : (net : Net) (i : InstanceId) (c : ClassId) (e : EventId) → HasClass net.topology (name_at net i) c → HasEventAt net i e → HasEvent net.topology.model c e
has_event net i c e of_class (d, of_d, has) = subst (λ k. HasEvent net.topology.model k e) (same_inside d c (sym of_d ∙ of_class)) has

-- a node is called by its event and its instance
pub name_of_node : (n : Numbered) (id : NodeId) (node : Node) (name : NodeName) → IsNode n.nodes id node → IsNodeNamed n id name → node_at n.net node.instance node.event ≡ name
name_of_node n id node name is named =
    let same : named.node ≡ node = same_inside named.node node (sym named.is ∙ is) in
    let instance : name_at n.net named.node.instance ≡ name.instance = name_is n.net named.node.instance name.instance named.instance in
    let event = named.event in
    let own : node_at n.net named.node.instance named.node.event ≡ name = λ i. record { event = event i; instance = instance i } in
    ap (λ (k : Node). node_at n.net k.instance k.event) (sym same) ∙ own

-- a number has one name
pub one_name : (n : Numbered) (id : NodeId) (a b : NodeName) → IsNodeNamed n id a → IsNodeNamed n id b → a ≡ b
one_name n id a b named other = sym (name_of_node n id named.node a named.is named) ∙ name_of_node n id named.node b named.is other

-- an event that the class of an instance does not have is no node
pub no_node : (t : Topology) (c : ClassId) (event instance : List ℕ) → HasClass t instance c → ((e : EventId) → ¬ NamesEvent t.model c event e) → ¬ IsNodeOf t (name_of event instance)
no_node t c event instance of_class none (e, at) = none e (subst (λ k. NamesEvent t.model k event e) (same_inside at.class c (sym at.of_class ∙ of_class)) at.named)

module _ (n : Numbered) (counts : NodeCounts) (kept : IsTopologyOf n.net n.nodes counts) where
  -- what has a number has a name
  pub named_node : (id : NodeId) (node : Node) → IsNode n.nodes id node → IsNodeNamed n id (node_at n.net node.instance node.event)
  named_node id node is = record { node = node; is = is; instance = is_named n.net node.instance (kept.table.live id node is); event = refl }

  -- a name has one number
  pub one_number : (i j : NodeId) (name : NodeName) → IsNodeNamed n i name → IsNodeNamed n j name → i ≡ j
  one_number i j name a b =
      let instance : a.node.instance ≡ b.node.instance = kept.whole.one a.node.instance b.node.instance name.instance a.instance b.instance in
      let had = kept.table.had i a.node a.is in
      let of_b : HasClass n.net.topology (name_at n.net b.node.instance) had.0 = subst (λ k. HasClass n.net.topology (name_at n.net k) had.0) instance had.1 in
      let has = has_event n.net b.node.instance had.0 b.node.event of_b (kept.table.had j b.node b.is) in
      let event : a.node.event ≡ b.node.event = event_reported n.net.topology.model kept.typed had.0 a.node.event b.node.event had.2 has (a.event ∙ sym b.event) in
      let node : a.node ≡ b.node = λ k. record { instance = instance k; event = event k } in
      kept.table.one i j b.node (subst (IsNode n.nodes i) node a.is) b.is

  -- what has a number is a node of the topology
  pub is_node : (id : NodeId) (name : NodeName) → IsNodeNamed n id name → IsNodeOf (topology_of n) name
  is_node id name named =
      let had = kept.table.had id named.node named.is in
      let at : IsEventAt (topology_of n) name named.node.event = record {
        class = had.0;
        of_class = subst (λ q. HasClass (topology_of n) q had.0) (name_is n.net named.node.instance name.instance named.instance) had.1;
        named = (had.2, sym (event_name_is n.net.topology.model named.node.event had.2.row had.2.is) ∙ named.event);
      } in
      (named.node.event, at)

  -- each node of the topology has a number
  pub has_number : (name : NodeName) → IsNodeOf (topology_of n) name → (id : NodeId) × IsNodeNamed n id name
  has_number name (e, at) =
      let i = kept.whole.named name.instance (live_of n.net.topology name.instance at.class at.of_class) in
      let of_class = subst (λ q. HasClass n.net.topology q at.class) (sym (name_is n.net i.0 name.instance i.1)) at.of_class in
      let id = kept.table.all i.0 e (name.instance, i.1) (at.class, of_class, at.named.0) in
      (id.0, record { node = node_of i.0 e; is = id.1; instance = i.1; event = event_name_is n.net.topology.model e at.named.0.row at.named.0.is ∙ at.named.1 })

  pub whole : IsWhole n
  whole = record {
    net = kept.whole;
    one = one_number;
    live = is_node;
    named = has_number;
    node_named = λ id node is. (node_at n.net node.instance node.event, named_node id node is);
    had = kept.table.had;
  }

  module _ (id : NodeId) (name : NodeName) (named : IsNodeNamed n id name) (c : ClassId) (of_class : HasClass n.net.topology name.instance c) where
    -- its class has the node's event
    pub has_it : HasEvent n.net.topology.model c named.node.event
    has_it =
        let own = subst (λ q. HasClass n.net.topology q c) (sym (name_is n.net named.node.instance name.instance named.instance)) of_class in
        has_event n.net named.node.instance c named.node.event own (kept.table.had id named.node named.is)

    -- a node is of a kind by the event of its number
    of_kind : (M : Kind) → ((e : EventId) → M c e name.event → NamesEvent n.net.topology.model c name.event e) → IsAt n.net.topology M name → M c named.node.event name.event
    of_kind M names (d, of_d, (e, is)) =
        let here : M c e name.event = subst (λ k. M k e name.event) (same_inside d c (sym of_d ∙ of_class)) is in
        let has = names e here in
        let event : e ≡ named.node.event = event_reported n.net.topology.model kept.typed c e named.node.event has.0 has_it (event_name_is n.net.topology.model e has.0.row has.0.is ∙ (has.1 ∙ sym named.event)) in
        subst (λ k. M c k name.event) event here

    pub problem_is : IsProblemOf n.net.topology.model c named.node.event ↔ IsProblem n.net.topology name
    problem_is = (
      λ is. record { class = c; of_class = of_class; event = named.node.event; problem = is; named = sym (event_name_is n.net.topology.model named.node.event is.has.row is.has.is) ∙ named.event },
      λ is. (of_kind (of_problems n.net.topology.model) (λ e m. (m.0.has, m.1)) ((problems_are n.net.topology name).0 is)).0,
    )

    pub symptom_is : IsSymptomOf n.net.topology.model c named.node.event ↔ IsSymptomNode n.net.topology name
    symptom_is = (
      λ is. record { class = c; of_class = of_class; event = named.node.event; symptom = is; named = sym (event_name_is n.net.topology.model named.node.event is.has.row is.has.is) ∙ named.event },
      λ is. (of_kind (of_symptoms n.net.topology.model) (λ e m. (m.0.has, m.1)) ((symptoms_are n.net.topology name).0 is)).0,
    )

  -- a look-up by number finds something just for the nodes
  pub reported_live : (id : NodeId) (r : Option Node) → IfSome r (IsNode n.nodes id) → IfNone r (¬ HasNumber n.nodes id) → IsTrue (is_some r) ↔ IsLiveNode n id
  reported_live id None found absent = (λ yes. absurd (false≢true yes), λ (name, named). absurd (absent (named.node, named.is)))
  reported_live id (Some node) found absent = (λ _. (node_at n.net node.instance node.event, named_node id node found), λ _. refl)

  -- what the event of a number is for the class, the node of the number is
  module _ (id : NodeId) (at : Node) (is : IsNode n.nodes id at) (tables : Tables) (model : tables ≡ n.net.topology.model)
      (c : ClassId) (of_class : (name : List ℕ) → IsNamed n.net at.instance name → HasClass n.net.topology name c)
      (name : NodeName) (named : IsNodeNamed n id name) where
    own : at ≡ named.node
    own = same_inside at named.node (sym is ∙ named.is)

    class : HasClass n.net.topology name.instance c
    class = of_class name.instance (subst (λ (k : Node). IsNamed n.net k.instance name.instance) (sym own) named.instance)

    pub reported_problem : (b : Bool) → IsTrue b ↔ IsProblemOf tables c at.event → IsTrue b ↔ IsProblem n.net.topology name
    reported_problem b reported =
        let here : IsTrue b ↔ IsProblemOf n.net.topology.model c named.node.event = subst (λ (k : Node). IsTrue b ↔ IsProblemOf n.net.topology.model c k.event) own (subst (λ t. IsTrue b ↔ IsProblemOf t c at.event) model reported) in
        let problem = problem_is id name named c class in
        (λ yes. problem.0 (here.0 yes), λ is. here.1 (problem.1 is))

    pub reported_symptom : (b : Bool) → IsTrue b ↔ IsSymptomOf tables c at.event → IsTrue b ↔ IsSymptomNode n.net.topology name
    reported_symptom b reported =
        let here : IsTrue b ↔ IsSymptomOf n.net.topology.model c named.node.event = subst (λ (k : Node). IsTrue b ↔ IsSymptomOf n.net.topology.model c k.event) own (subst (λ t. IsTrue b ↔ IsSymptomOf t c at.event) model reported) in
        let symptom = symptom_is id name named c class in
        (λ yes. symptom.0 (here.0 yes), λ is. here.1 (symptom.1 is))

use Rattle.std.proofs.Common.{subst, ◌∙◌}
use Rattle.std.specs.Prelude.{IfSome}
use Rattle.std.proofs.lemmas.Option.{IfSome_then}
use Rattle.cb_model.specs.declared.id.EventId.{EventId}
use Rattle.cb_model.specs.declared.tables.Tables.{Tables}
use Rattle.cb_model.specs.Classes.{NamesEvent}
use Rattle.cb_network.specs.Edits.{node_name_of as name_of}
use Rattle.cb_network.specs.Nodes.{IsNodeOf}
use Rattle.cb_nodes.specs.Table.{node_of}
use Rattle.cb_topo.specs.Numbered.{Numbered, topology_of, IsNodeNamed}
use Rattle.cb_topo.proofs.Naming.{event_name_is, no_node}
use Rattle.cb_topo.proofs.topology.Topology.node_named.Goals as goal

pub returns-in_err-event-clause-absent : goal.returns-in_err-event-clause-absent
returns-in_err-event-clause-absent c =
    let event = c.args.event.now in
    let instance = c.args.instance.now in
    let class = c.class_of-class.result in
    let of_class = c.class_of-class.ensures instance c.in_ok-id.ensures.found in
    let none = subst (λ (t : Tables). (e : EventId) → ¬ NamesEvent t class event e) c.model.ensures.value c.in_err-event.ensures.absent in
    let absent = no_node c.self.inside.net.topology class event instance of_class none in
    rw c.from_residual-in_err-event.ensures (subst (λ (m : Numbered). ¬ IsNodeOf (topology_of m) (name_of event instance)) c.self.view_is absent)

pub returns-clause-found : goal.returns-clause-found
returns-clause-found c =
    let event = c.args.event.now in
    let instance = c.args.instance.now in
    let named = subst (λ (t : Tables). NamesEvent t c.class_of-class.result event c.in_ok-event.event) c.model.ensures.value c.in_ok-event.ensures.found in
    let name = event_name_is c.self.inside.net.topology.model c.in_ok-event.event named.0.row named.0.is ∙ named.1 in
    subst (λ (m : Numbered). IfSome c.node_at.result (λ id. IsNodeNamed m id (name_of event instance))) c.self.view_is
    (IfSome_then c.node_at.result c.node_at.ensures.found (λ id is. record {
      node = node_of c.in_ok-id.id c.in_ok-event.event;
      is = is;
      instance = c.in_ok-id.ensures.found;
      event = name;
    }))

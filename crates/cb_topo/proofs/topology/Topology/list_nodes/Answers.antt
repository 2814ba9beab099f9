use Rattle.std.proofs.Common.{◌≡◌, List, [], ◌∷◌, ◌++◌, take, slice_index_or, append-nil, append_assoc, ap, sym, subst, ◌∙◌}
use Rattle.std.proofs.lemmas.List.{take_more, take_all}
use Rattle.std.specs.declared.cmp.Ordering.TheVariants.{Less}
use Rattle.cb_model.specs.declared.id.EventId.{EventId}
use Rattle.cb_model.specs.Order.{name_cmp}
use Rattle.cb_instances.specs.Net.{event_name}
use Rattle.cb_nodes.specs.declared.id.NodeId.{NodeId}
use Rattle.cb_nodes.specs.Table.{IsNode, NumbersEvent, node_of}
use Rattle.cb_topo.specs.Numbered.{Numbered, topology_of}
use Rattle.cb_topo.proofs.ByNames.{AreNodesOfEvents, no_events, past_event, more_events, all_events}
use Rattle.cb_topo.proofs.Rising.{before_next}
use Rattle.cb_topo.proofs.topology.Topology.list_nodes.Goals as goal
use Rattle.cb_topo.proofs.topology.Topology.list_nodes.Goals.{in-Some+in_ok-push, in_default}

pub loop-event-init : goal.loop-event-init
loop-event-init c = ([], no_events c.args.self.now c.args.instance, sym (append-nil c.args.nodes.now.items))

pub loop-event-preserved : goal.loop-event-preserved
loop-event-preserved c =
    let n = c.args.self.now in
    let i = c.args.instance in
    let events = c.args.events.now in
    let k = c.loop-event.event-index in
    let zero : EventId = record { 0 = 0 } in
    let inside = c.loop-event-test.true in
    let e = slice_index_or events k zero in
    let (ids, are, listed) = c.loop-event.invariant in
    let old = c.args.nodes.now.items in
    subst (λ (taken : List EventId). (ids : List NodeId) × AreNodesOfEvents n i taken ids × (c.match-node_at.nodes.items ≡ old ++ ids)) (sym (take_more events k zero inside))
    (elim c.match-node_at.branch [
      | in-Some+in_ok-push w ↦
          let id = w.in-Some.node in
          let is = subst (λ (m : Numbered). IsNode m.nodes id (node_of i e)) c.self.view_is w.in-Some.ensures.found in
          let before = before_next (λ a b. name_cmp (event_name (topology_of n).model a) (event_name (topology_of n).model b) ≡ Less) events k zero c.requires.events.rise inside in (
            ids ++ id ∷ [],
            more_events n i (take k events) ids are e c.requires.whole id is before,
            ap (λ v. v.items) w.nodes-is ∙ (w.in_ok-push.ensures.items ∙ (ap (λ xs. xs ++ id ∷ []) listed ∙ append_assoc old ids (id ∷ []))),
          )
      | in_default w ↦ (
        ids,
        past_event n i (take k events) ids are e (subst (λ (m : Numbered). ¬ NumbersEvent m.nodes i e) c.self.view_is w.in_default.ensures.absent),
        ap (λ v. v.items) w.nodes-is ∙ listed,
      )
    ])

pub returns : goal.returns
returns c =
    let n = c.args.self.now in
    let events = c.args.events.now in
    let (ids, are, listed) = c.loop-event.invariant in
    let all = take_all c.loop-event.event-index events c.loop-event-test.false in
    all_events n c.requires.whole c.args.instance events c.args.nodes.now.items c.loop-event.nodes.items ids c.requires.events
    (subst (λ (taken : List EventId). AreNodesOfEvents n c.args.instance taken ids) all are) listed

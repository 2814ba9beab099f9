use Rattle.std.proofs.Common.{List, [], slice_index_or, refl, sym, subst}
use Rattle.std.proofs.lemmas.List.{take_all}
use Rattle.std.proofs.lemmas.List.Elements.{Contains-get_or}
use Rattle.cb_model.specs.declared.id.EventId.{EventId}
use Rattle.cb_network.specs.declared.edit.Edit.{Edit}
use Rattle.cb_nodes.proofs.Events.{events_once}
use Rattle.cb_accept.proofs.Own.{listed_is_event}
use Rattle.cb_instances.specs.Net.{name_at}
use Rattle.cb_topo.specs.Numbered.{topology_of}
use Rattle.cb_inverse.specs.Listed.{AreMuteEdits}
use Rattle.cb_inverse.proofs.Muting.{none_muted, next_muted}
use Rattle.cb_inverse.proofs.mutes.mute_each.Goals as goal

-- any event, where there is no item
abbrev zero : EventId
zero = record { 0 = 0 }

pub loop-event-init : goal.loop-event-init
loop-event-init c =
    let n = c.args.topology.now in
    subst (λ (es : List Edit). AreMuteEdits (topology_of n) (name_at n.net c.args.id) [] es) (sym c.new-edits.ensures.items) (none_muted n.net c.args.id)

pub add_mute-requires-clause-event : goal.add_mute-requires-clause-event
add_mute-requires-clause-event c =
    let n = c.args.topology.now in
    let (class, of_class, are) = c.requires.events in
    let events = c.args.events.now in
    let i = c.loop-event.event-index in (
      class,
      of_class,
      listed_is_event (topology_of n).model class events are (slice_index_or events i zero)
          (Contains-get_or events i zero c.loop-event-test.true),
    )

pub loop-event-preserved : goal.loop-event-preserved
loop-event-preserved c =
    let n = c.args.topology.now in
    let (class, of_class, are) = c.requires.events in
    let events = c.args.events.now in
    next_muted n.net c.model-model.ensures.typed c.args.id class events (listed_is_event (topology_of n).model class events are) (events_once (topology_of n).model class events are)
    c.loop-event.event-index zero (slice_index_or events c.loop-event.event-index zero) c.loop-event-test.true refl c.loop-event.edits.items c.loop-event.invariant
    c.add_mute.new.edits.items c.in_ok-add_mute.ensures

pub returns : goal.returns
returns c =
    let n = c.args.topology.now in
    let events = c.args.events.now in
    subst (λ (es : List EventId). AreMuteEdits (topology_of n) (name_at n.net c.args.id) es c.loop-event.edits.items) (take_all c.loop-event.event-index events c.loop-event-test.false)
    c.loop-event.invariant

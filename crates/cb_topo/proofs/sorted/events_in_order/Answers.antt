use Rattle.std.proofs.Common.{◌+◌, List, slice_index_or, take, [], ◌∷◌, ◌++◌, ap, sym, subst, ◌∙◌}
use Rattle.std.proofs.lemmas.List.{take_more, take_all}
use Rattle.std.proofs.lemmas.List.Elements.{Contains-get_or}
use Rattle.std.proofs.lemmas.Option.{slice_get_within}
use Rattle.std.proofs.lemmas.Result.{IfOk-weaker}
use Rattle.cb_model.specs.declared.id.EventId.{EventId}
use Rattle.cb_model.specs.declared.tables.Tables.{Tables}
use Rattle.cb_model.specs.Views.{AreEventsOf}
use Rattle.cb_instances.specs.Net.{name_in_row}
use Rattle.cb_accept.proofs.Own.{listed_is_event}
use Rattle.std.specs.Prelude.{◌≡◌, ◌<◌, length, slice_get, Some}
use Rattle.cb_topo.specs.declared.sorted.Named.{Named}
use Rattle.cb_topo.proofs.ByNames.{AreNamedEvents, no_named_events, more_named_events, events_unlike, events_ordered}
use Rattle.cb_topo.proofs.sorted.events_in_order.Goals as goal

pub loop-id-init : goal.loop-id-init
loop-id-init c = subst (AreNamedEvents c.args.model.now []) (sym c.new-named.ensures.items) (no_named_events c.args.model.now)

pub at-row-requires : goal.at-row-requires
at-row-requires c =
    let zero : EventId = record { 0 = 0 } in
    let events = c.as_slice-events.result.now in
    let are = subst (AreEventsOf c.args.model.now c.args.class) (sym c.as_slice-events.ensures) c.events_of.ensures in
    let e = slice_index_or events c.loop-id.id-index zero in
    let has = listed_is_event c.args.model.now c.args.class events are e (Contains-get_or events c.loop-id.id-index zero c.loop-id-test.true) in
    subst (λ (t : Tables). e.0 < length t.events) (sym c.tables-tables.ensures.value) (slice_get_within c.args.model.now.events e.0 has.row has.is)

pub loop-id-preserved : goal.loop-id-preserved
loop-id-preserved c =
    let tables = c.args.model.now in
    let zero : EventId = record { 0 = 0 } in
    let events = c.as_slice-events.result.now in
    let k = c.loop-id.id-index in
    let e = slice_index_or events k zero in
    let one : Named EventId = record { name = c.bytes.result; id = e } in
    let row_is = subst (λ (t : Tables). slice_get t.events e.0 ≡ Some c.at-row.result.now) c.tables-tables.ensures.value c.at-row.ensures in
    subst (λ (taken : List EventId). AreNamedEvents tables taken c.push.new.self.items) (sym (take_more events k zero c.loop-id-test.true))
    (subst (AreNamedEvents tables (take k events ++ e ∷ [])) (sym c.in_ok-push.ensures.items)
    (more_named_events tables (take k events) c.loop-id.named.items one c.loop-id.invariant (ap name_in_row row_is ∙ sym c.bytes.ensures)))

pub in_name_order-requires : goal.in_name_order-requires
in_name_order-requires c =
    let events = c.as_slice-events.result.now in
    let are = subst (AreEventsOf c.args.model.now c.args.class) (sym c.as_slice-events.ensures) c.events_of.ensures in
    let all = take_all c.loop-id.id-index events c.loop-id-test.false in
    events_unlike c.args.model.now c.tables-tables.ensures.typed c.args.class events are c.loop-id.named.items
    (subst (λ (taken : List EventId). AreNamedEvents c.args.model.now taken c.loop-id.named.items) all c.loop-id.invariant)

pub returns : goal.returns
returns c =
    let events = c.as_slice-events.result.now in
    let are = subst (AreEventsOf c.args.model.now c.args.class) (sym c.as_slice-events.ensures) c.events_of.ensures in
    let all = take_all c.loop-id.id-index events c.loop-id-test.false in
    let named = subst (λ (taken : List EventId). AreNamedEvents c.args.model.now taken c.loop-id.named.items) all c.loop-id.invariant in
    IfOk-weaker c.in_name_order.result _ _ (λ ids order. events_ordered c.args.model.now c.tables-tables.ensures.typed c.args.class events are c.loop-id.named.items named ids.items order) c.in_name_order.ensures

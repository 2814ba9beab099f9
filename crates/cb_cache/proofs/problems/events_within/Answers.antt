use Rattle.std.proofs.Common.{◌≡◌, sym, subst, arith}
use Rattle.cb_model.specs.declared.tables.Tables.{Tables}
use Rattle.cb_model.specs.Views.{AreEventsOf}
use Rattle.cb_model.specs.WellTyped.{IsClass}
use Rattle.cb_accept.proofs.Own.{few_events}
use Rattle.cb_accept.specs.NumberedEdits.{IsNumberedEdit}
use Rattle.cb_accept.specs.declared.numbered.NumberedEdit.TheVariants as numbered
use Rattle.cb_topo.specs.Numbered.{topology_of}
use Rattle.cb_topo.proofs.Numbering.{numbered_class}
use Rattle.cb_cache.proofs.Creating.{events_for, no_events}
use Rattle.cb_cache.proofs.problems.events_within.Goals as goal

pub events_of-requires : goal.events_of-requires
events_of-requires c =
    let n = c.args.topology.now.net in
    let edit = c.args.accepted.now.edit.now in
    let same : c.args.accepted.now.numbered ≡ numbered.Create c.in-Create.class = cc in
    let is = subst (IsNumberedEdit n edit) same c.requires.by_numbers in
    subst (λ (m : Tables). IsClass m c.in-Create.class) (sym c.model-model.ensures.value) (numbered_class n edit c.in-Create.class is)

pub returns-in-Create-clause-events : goal.returns-in-Create-clause-events
returns-in-Create-clause-events c =
    let n = c.args.topology.now.net in
    let edit = c.args.accepted.now.edit.now in
    let same : c.args.accepted.now.numbered ≡ numbered.Create c.in-Create.class = cc in
    let is = subst (IsNumberedEdit n edit) same c.requires.by_numbers in
    let are = subst (λ (m : Tables). AreEventsOf m c.in-Create.class c.events_of.result.now) c.model-model.ensures.value c.events_of.ensures in
    events_for n edit c.in-Create.class c.model-model.ensures.typed is c.events_of.result.now are c.len.result c.len.ensures

pub returns-in-Create-clause-few : goal.returns-in-Create-clause-few
returns-in-Create-clause-few c =
    let model = (topology_of c.args.topology.now).model in
    let are = subst (λ (m : Tables). AreEventsOf m c.in-Create.class c.events_of.result.now) c.model-model.ensures.value c.events_of.ensures in
    let few = few_events model c.in-Create.class c.model-model.ensures.typed c.events_of.result.now are in
    let long = c.len.ensures in
    omega arith

pub returns-in_default-clause-events : goal.returns-in_default-clause-events
returns-in_default-clause-events c =
    no_events c.args.topology.now.net c.args.accepted.now.edit.now c.args.accepted.now.numbered c.requires.by_numbers (λ class same. c.in_default.not-Create class same)

use Rattle.std.proofs.Common.{◌≡◌, length, arith, sym, subst}
use Rattle.std.proofs.lemmas.List.Elements.{Contains-get_or}
use Rattle.std.proofs.lemmas.Option.{slice_get_within}
use Rattle.cb_model.specs.Views.{AreEventsOf}
use Rattle.cb_network.specs.Nodes.{IsNodeOf, IsProblem, IsSymptomNode}
use Rattle.cb_network.proofs.Counts.{of_nodes, of_problems, of_symptoms, nodes_are, problems_are, symptoms_are}
use Rattle.cb_accept.proofs.Changed.{alone}
use Rattle.cb_accept.proofs.Own.{HasTallied, tallied_none, tallied_more, own_nodes, own_problems, own_symptoms, few_events, listed_is_event, bit_is_small}
use Rattle.cb_accept.proofs.counts.NodeCounts.of_class.Goals as goal

pub loop-event-init : goal.loop-event-init
loop-event-init c =
    let are = subst (AreEventsOf c.args.model.now c.args.class) (sym c.as_slice-events.ensures) c.events_of.ensures in
    tallied_none c.args.model.now c.args.class c.tables-typed.ensures.typed c.as_slice-events.result.now are

pub marks-marks-requires-clause-event : goal.marks-marks-requires-clause-event
marks-marks-requires-clause-event c =
    let are = subst (AreEventsOf c.args.model.now c.args.class) (sym c.as_slice-events.ensures) c.events_of.ensures in
    let there = Contains-get_or c.as_slice-events.result.now c.loop-event.event-index _ c.loop-event-test.true in
    let has = listed_is_event c.args.model.now c.args.class c.as_slice-events.result.now are _ there in
    slice_get_within c.args.model.now.events _ has.row has.is

pub overflow_add-problems : goal.overflow_add-problems
overflow_add-problems c =
    let are = subst (AreEventsOf c.args.model.now c.args.class) (sym c.as_slice-events.ensures) c.events_of.ensures in
    let few = few_events c.args.model.now c.args.class c.tables-typed.ensures.typed c.as_slice-events.result.now are in
    let small = bit_is_small c.marks-marks.result.problem in
    omega arith

pub overflow_add-symptoms : goal.overflow_add-symptoms
overflow_add-symptoms c =
    let are = subst (AreEventsOf c.args.model.now c.args.class) (sym c.as_slice-events.ensures) c.events_of.ensures in
    let few = few_events c.args.model.now c.args.class c.tables-typed.ensures.typed c.as_slice-events.result.now are in
    let small = bit_is_small c.marks-marks.result.symptom in
    omega arith

pub loop-event-preserved : goal.loop-event-preserved
loop-event-preserved c =
    let are = subst (AreEventsOf c.args.model.now c.args.class) (sym c.as_slice-events.ensures) c.events_of.ensures in
    tallied_more c.args.model.now c.args.class c.tables-typed.ensures.typed c.as_slice-events.result.now are c.loop-event.event-index c.loop-event.problems c.loop-event.symptoms _
    c.marks-marks.result.problem c.marks-marks.result.symptom c.from-problems.result c.from-symptoms.result c.loop-event-test.true c.from-problems.ensures c.from-symptoms.ensures
    c.marks-marks.ensures.problem c.marks-marks.ensures.symptom c.loop-event.invariant

pub returns-clause-own : goal.returns-clause-own
returns-clause-own c =
    let tables = c.args.model.now in
    let class = c.args.class in
    let events = c.as_slice-events.result.now in
    let typed = c.tables-typed.ensures.typed in
    let are = subst (AreEventsOf tables class) (sym c.as_slice-events.ensures) c.events_of.ensures in
    let end : c.loop-event.event-index ≡ length events = omega arith in
    let all = subst (λ i. HasTallied tables class events i c.loop-event.problems c.loop-event.symptoms) end c.loop-event.invariant in
    λ name. record {
      nodes = alone IsNodeOf of_nodes nodes_are tables name class _ (own_nodes tables class typed events are _ _ all name);
      problems = alone IsProblem of_problems problems_are tables name class _ (own_problems tables class typed events are _ _ all name);
      symptoms = alone IsSymptomNode of_symptoms symptoms_are tables name class _ (own_symptoms tables class typed events are _ _ all name);
    }

pub returns-clause-few : goal.returns-clause-few
returns-clause-few c =
    let are = subst (AreEventsOf c.args.model.now c.args.class) (sym c.as_slice-events.ensures) c.events_of.ensures in
    let few = few_events c.args.model.now c.args.class c.tables-typed.ensures.typed c.as_slice-events.result.now are in
    record { nodes = few; problems = omega arith; symptoms = omega arith }

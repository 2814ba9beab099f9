use Rattle.std.proofs.Common.{◌<◌, length, subst, sym}
use Rattle.cb_model.specs.Classes.{IsSymptomOf}
use Rattle.cb_model.specs.declared.tables.Tables.{Tables}
use Rattle.cb_accept.proofs.Looked.{lacks_symptom, no_event, event_within, symptom_found, no_symptom}
use Rattle.cb_accept.proofs.lookup.symptom_at.Goals as goal

pub returns-in_err-class-clause-absent : goal.returns-in_err-class-clause-absent
returns-in_err-class-clause-absent c =
    rw c.from_residual.ensures
    (λ a named. lacks_symptom c.args.net.now c.args.id c.class_at.ensures.typed c.in_err-class.ensures.absent a named c.args.name.now)

pub returns-in_err-event-clause-absent : goal.returns-in_err-event-clause-absent
returns-in_err-event-clause-absent c =
    rw c.from_residual-in_err-event.ensures
    (no_event c.args.net.now c.args.id c.model.result.now c.model.ensures.value c.in_ok-class.class c.in_ok-class.ensures.found c.args.name.now c.in_err-event.ensures.absent)

pub marks-requires-clause-event : goal.marks-requires-clause-event
marks-requires-clause-event c =
    let within = event_within c.args.net.now c.args.id c.model.result.now c.model.ensures.value c.in_ok-class.class c.args.name.now c.in_ok-event.event c.in_ok-event.ensures.found in
    subst (λ (m : Tables). c.in_ok-event.event.0 < length m.events) (sym c.model-2.ensures.value) within

pub returns-then-marks-clause-found : goal.returns-then-marks-clause-found
returns-then-marks-clause-found c =
    let symptom = subst (λ (m : Tables). IsSymptomOf m c.in_ok-class.class c.in_ok-event.event) c.model-2.ensures.value (c.marks.ensures.symptom.0 c.if-marks.true) in
    symptom_found c.args.net.now c.args.id c.model.result.now c.model.ensures.value c.in_ok-class.class c.in_ok-class.ensures.found c.args.name.now c.in_ok-event.event c.in_ok-event.ensures.found symptom

pub returns-else-marks-clause-absent : goal.returns-else-marks-clause-absent
returns-else-marks-clause-absent c =
    no_symptom c.args.net.now c.args.id c.model.result.now c.model.ensures.value c.class_at.ensures.typed c.in_ok-class.class c.in_ok-class.ensures.found c.args.name.now c.in_ok-event.event c.in_ok-event.ensures.found
    (λ symptom.
    let yes_it_is = c.marks.ensures.symptom.1 (subst (λ (m : Tables). IsSymptomOf m c.in_ok-class.class c.in_ok-event.event) (sym c.model-2.ensures.value) symptom) in
    let no = c.if-marks.false in
    cc)

use Rattle.cb_network.specs.declared.edit.Edit.TheVariants.{Mute, Unmute}
use Rattle.cb_network.specs.declared.edit.EditRefusal.TheVariants.{NoSymptom}
use Rattle.cb_instances.specs.declared.id.InstanceId.{InstanceId}
use Rattle.cb_instances.specs.Net.{IsNamed}
use Rattle.cb_network.specs.Edits.{IsRefused}
use Rattle.cb_accept.proofs.Answered.{absent_err, present}
use Rattle.cb_accept.proofs.Firsts.{no_symptom_to_mute, no_symptom_to_unmute}
use Rattle.cb_accept.proofs.mute.Symptom.of.Goals as goal

pub returns-in_err-event-clause-mute : goal.returns-in_err-event-clause-mute
returns-in_err-event-clause-mute c =
    let net = c.args.net.now in
    let named = present (λ (id : InstanceId). IsNamed net id c.args.name.now) c.instance_named.result c.in_ok-id.id c.in_ok-id.ensures.ok_part c.instance_named.ensures.found in
    absent_err c.symptom_at.result NoSymptom _ c.from_residual-in_err-event.result _ (IsRefused net.topology (Mute c.args.event.now c.args.name.now))
    c.in_err-event.ensures.value c.from_residual-in_err-event.ensures.1 c.symptom_at.ensures.absent
    (λ none. no_symptom_to_mute net.topology c.args.event.now c.args.name.now (c.instance_named.ensures.whole.live _ _ named) (none c.args.name.now named))

pub returns-in_err-event-clause-unmute : goal.returns-in_err-event-clause-unmute
returns-in_err-event-clause-unmute c =
    let net = c.args.net.now in
    let named = present (λ (id : InstanceId). IsNamed net id c.args.name.now) c.instance_named.result c.in_ok-id.id c.in_ok-id.ensures.ok_part c.instance_named.ensures.found in
    absent_err c.symptom_at.result NoSymptom _ c.from_residual-in_err-event.result _ (IsRefused net.topology (Unmute c.args.event.now c.args.name.now))
    c.in_err-event.ensures.value c.from_residual-in_err-event.ensures.1 c.symptom_at.ensures.absent
    (λ none. no_symptom_to_unmute net.topology c.args.event.now c.args.name.now (c.instance_named.ensures.whole.live _ _ named) (none c.args.name.now named))

pub returns-clause-found : goal.returns-clause-found
returns-clause-found c =
    let net = c.args.net.now in
    let named = present (λ (id : InstanceId). IsNamed net id c.args.name.now) c.instance_named.result c.in_ok-id.id c.in_ok-id.ensures.ok_part c.instance_named.ensures.found in
    record {
      named = named;
      symptom = present _ c.symptom_at.result c.in_ok-event.event c.in_ok-event.ensures.ok_part c.symptom_at.ensures.found c.args.name.now named;
    }

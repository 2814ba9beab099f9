use Rattle.std.proofs.Common.{subst, ap, ◌∙◌}
use Rattle.std.specs.Prelude.{codes}
use Rattle.serde_json.specs.Find.{get}
use Rattle.cb_alarm.specs.declared.body.BodyKind.{BodyKind}
use Rattle.cb_alarm.specs.Faults.{name_of}
use Rattle.cb_alarm.specs.Skips.{HasKey}
use Rattle.cb_alarm.proofs.FirstFaults.{passed_on, raise_faults, clear_faults, edit_faults, tick_fault}
use Rattle.cb_alarm.proofs.body.body_in.Goals as goal

pub returns-in_err-alarm-in-Some-Raise-clause-skip : goal.returns-in_err-alarm-in-Some-Raise-clause-skip
returns-in_err-alarm-in-Some-Raise-clause-skip c =
    passed_on _ _
    (λ kind on ms is time. raise_faults ms time (c.in-Some-Raise.ensures.one ms is) (subst (λ (k : BodyKind). HasKey ms (name_of k)) c.in-Some-Raise.field-0-is (c.in-Some-Raise.ensures.some ms is)) kind (on ms is))
    _ _ c.from_residual.ensures.1 c.in_err-alarm-in-Some-Raise.ensures.skip

pub returns-in_err-alarm-in-Some-Clear-clause-skip : goal.returns-in_err-alarm-in-Some-Clear-clause-skip
returns-in_err-alarm-in-Some-Clear-clause-skip c =
    passed_on _ _
    (λ kind on ms is time. clear_faults ms time (c.in-Some-Clear.ensures.one ms is) (subst (λ (k : BodyKind). HasKey ms (name_of k)) c.in-Some-Clear.field-0-is (c.in-Some-Clear.ensures.some ms is)) kind (on ms is))
    _ _ c.from_residual-in_err-alarm-in-Some-Clear.ensures.1 c.in_err-alarm-in-Some-Clear.ensures.skip

pub returns-in_err-edit-in-Some-Edit-clause-skip : goal.returns-in_err-edit-in-Some-Edit-clause-skip
returns-in_err-edit-in-Some-Edit-clause-skip c =
    passed_on _ _
    (λ kind on ms is time. edit_faults ms time (c.in-Some-Edit.ensures.one ms is) (subst (λ (k : BodyKind). HasKey ms (name_of k)) c.in-Some-Edit.field-0-is (c.in-Some-Edit.ensures.some ms is)) kind (on ms is))
    _ _ c.from_residual-in_err-edit-in-Some-Edit.ensures.1 c.in_err-edit-in-Some-Edit.ensures.skip

pub returns-in_ok-alarm-in-Some-Raise-clause-body : goal.returns-in_ok-alarm-in-Some-Raise-clause-body
returns-in_ok-alarm-in-Some-Raise-clause-body c = λ ms is. (c.in_ok-alarm-in-Some-Raise.ensures.node ms is, c.in_ok-alarm-in-Some-Raise.ensures.source ms is)

pub returns-in_ok-alarm-in-Some-Clear-clause-body : goal.returns-in_ok-alarm-in-Some-Clear-clause-body
returns-in_ok-alarm-in-Some-Clear-clause-body c = λ ms is. (c.in_ok-alarm-in-Some-Clear.ensures.node ms is, c.in_ok-alarm-in-Some-Clear.ensures.source ms is)

pub returns-else-is_tick-clause-skip : goal.returns-else-is_tick-clause-skip
returns-else-is_tick-clause-skip c = λ ms is time.
    tick_fault ms time (c.in-Some-Tick.ensures.one ms is) (subst (λ (k : BodyKind). HasKey ms (name_of k)) c.in-Some-Tick.field-0-is (c.in-Some-Tick.ensures.some ms is))
    (λ says. let e = c.is_tick.ensures.1 (ap (get (codes "tick")) is ∙ says) in let no = c.if-is_tick.false in absurd (cc))

use Rattle.std.proofs.Common.{◌≡◌, ◌++◌, List, ap, sym, subst, ◌∙◌}
use Rattle.std.specs.List.{AllZip}
use Rattle.cb_log.specs.declared.event.Event.{Event}
use Rattle.cb_log.specs.Basis.{IsDiagnosis}
use Rattle.cb_session.proofs.Bases.{ready_has_basis}
use Rattle.cb_session.proofs.reported.reported_in_use.Goals as goal

pub returns : goal.returns
returns c = λ mode is.
    let has = ready_has_basis c.args.topology.now mode c.args.ready.now is in
    let said = c.in_ok-diagnose.ensures mode has.0 has.1 in
    let all : c.diagnose.new.events ≡ said.0 = said.2 ∙ ap (λ (es : List Event). es ++ said.0) c.new-events.ensures in
    record {
      basis = has.0;
      has = has.1;
      each = subst (λ (es : List Event). AllZip (IsDiagnosis has.0) c.args.closing.now es) (sym all) said.1;
    }

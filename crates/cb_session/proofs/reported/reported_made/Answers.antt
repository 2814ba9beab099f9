use Rattle.cb_log.specs.Basis.{wanted}
use Rattle.cb_session.proofs.Bases.{ready_has_basis}
use Rattle.cb_session.proofs.reported.reported_made.Goals as goal

pub returns : goal.returns
returns c =
    let n = c.args.topology.now in
    let mode = wanted c.args.wish in
    let has = ready_has_basis n mode c.args.ready.now c.requires.ready in
    let said = c.in_ok-diagnose.ensures mode has.0 has.1 in
    record {
      basis = has.0;
      has = has.1;
      announced = c.in_ok-events.events;
      is_announced = c.in_ok-events.ensures n mode has.0 has.1;
      diagnoses = said.0;
      each = said.1;
      events_are = said.2;
    }

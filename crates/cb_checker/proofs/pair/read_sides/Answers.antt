use Rattle.std.proofs.Common.{subst}
use Rattle.std.specs.Prelude.{Ok, Err, None}
use Rattle.std.specs.List.{flat_map}
use Rattle.cb_validity.specs.Checks.{Judges, asked_sides, span_checks}
use Rattle.cb_topo.specs.Numbered.{Numbered, topology_of}
use Rattle.cb_checker.specs.Known.{verdict_of}
use Rattle.cb_checker.specs.Spans.{JudgesSpan}
use Rattle.cb_checker.proofs.Joined.{exit}
use Rattle.cb_checker.proofs.Siding.{first_stops, both_judged}
use Rattle.cb_checker.proofs.pair.read_sides.Goals as goal

pub returns-in_err-first-clause-judges : goal.returns-in_err-first-clause-judges
returns-in_err-first-clause-judges g c = λ whole known.
    let reported = c.in_err-first.field-0.0 in
    exit (λ r. Judges (topology_of c.args.graph.now) whole (flat_map span_checks (asked_sides c.args.first.now c.args.second.now)) (verdict_of r)) c.from_residual.result reported
    c.from_residual.ensures.1 (first_stops c.args.graph.now c.args.ids.now c.args.first.now c.args.second.now reported c.in_err-first.ensures.judges whole known)

pub returns-in_err-second-clause-judges : goal.returns-in_err-second-clause-judges
returns-in_err-second-clause-judges g c = λ whole known.
    let reported = c.in_err-second.field-0.0 in
    let two = subst (λ (m : Numbered). JudgesSpan m c.args.ids.now None c.entries_in-before.result c.args.second.now span_checks (Err reported)) c.in_ok-first.ensures.same
    c.in_err-second.ensures.judges
    in
    exit (λ r. Judges (topology_of c.args.graph.now) whole (flat_map span_checks (asked_sides c.args.first.now c.args.second.now)) (verdict_of r))
    c.from_residual-in_err-second.result reported c.from_residual-in_err-second.ensures.1
    (both_judged c.args.graph.now c.args.ids.now c.args.first.now c.args.second.now c.entries_in-before.result (Err reported) c.entries_in-before.ensures
    c.in_ok-first.ensures.judges two whole known)

pub returns-clause-judges : goal.returns-clause-judges
returns-clause-judges g c = λ whole known.
    let two = subst (λ (m : Numbered). JudgesSpan m c.args.ids.now None c.entries_in-before.result c.args.second.now span_checks (Ok tt)) c.in_ok-first.ensures.same
    c.in_ok-second.ensures.judges
    in
    both_judged c.args.graph.now c.args.ids.now c.args.first.now c.args.second.now c.entries_in-before.result (Ok tt) c.entries_in-before.ensures
    c.in_ok-first.ensures.judges two whole known

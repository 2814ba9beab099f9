use Rattle.std.proofs.Common.{[], ◌∷◌, refl, sym}
use Rattle.cb_cert.specs.declared.certificate.Certificate.TheVariants.{Capped}
use Rattle.cb_validity.specs.Checks.{Judges, book_checks, capped_checks, radius_check}
use Rattle.cb_validity.proofs.Stages.{failed_stop}
use Rattle.cb_topo.specs.Numbered.{topology_of}
use Rattle.cb_checker.specs.Known.{verdict_of}
use Rattle.cb_checker.proofs.Capping.{capped_judged, capped_shown}
use Rattle.cb_checker.proofs.Joined.{exit}
use Rattle.cb_checker.proofs.book.check_capped.Goals as goal

pub returns-in_err-groups-clause-judges : goal.returns-in_err-groups-clause-judges
returns-in_err-groups-clause-judges g c = λ names are named.
    let nodes = c.args.nodes.now in
    let numbers = c.args.numbers.now in
    let radii = c.args.radii.now in
    let spans = c.args.spans.now in
    let t = topology_of c.args.graph.now in
    let whole = Capped c.args.cap nodes numbers radii spans in
    let reported = c.in_err-groups.field-0.0 in
    exit (λ r. Judges t whole (capped_checks names nodes numbers spans) (verdict_of r))
    c.from_residual.result reported c.from_residual.ensures.1
    (failed_stop t whole (book_checks names nodes numbers spans) (radius_check ∷ []) reported (c.in_err-groups.ensures.judges radii names are named))

pub returns-clause-judges : goal.returns-clause-judges
returns-clause-judges g c = λ names are named.
    let grouped = c.in_ok-groups.ensures.grouped in
    capped_judged (topology_of c.args.graph.now) c.args.cap c.args.nodes.now c.args.numbers.now c.args.radii.now c.args.spans.now grouped.columns c.in_ok-groups.groups.groups
    grouped.made names _ _ (sym grouped.width) (c.in_ok-groups.ensures.judges c.args.radii.now names are named) c.judge_radii.result c.judge_radii.ensures

pub returns-clause-shows : goal.returns-clause-shows
returns-clause-shows g c =
    let grouped = c.in_ok-groups.ensures.grouped in
    capped_shown (topology_of c.args.graph.now) c.args.cap c.args.nodes.now c.args.numbers.now c.args.radii.now c.args.spans.now grouped.columns c.in_ok-groups.groups.groups
    grouped.made _ _ (sym grouped.width) refl c.judge_radii.result c.judge_radii.ensures

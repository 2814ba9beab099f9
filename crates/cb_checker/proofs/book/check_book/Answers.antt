use Rattle.std.proofs.Common.{[]}
use Rattle.cb_cert.specs.declared.certificate.Certificate.TheVariants.{Book}
use Rattle.cb_validity.specs.Checks.{Judges, book_checks}
use Rattle.cb_topo.specs.Numbered.{topology_of}
use Rattle.cb_checker.specs.Known.{verdict_of}
use Rattle.cb_checker.proofs.Joined.{exit}
use Rattle.cb_checker.proofs.book.check_book.Goals as goal

pub returns-in_err-groups-clause-judges : goal.returns-in_err-groups-clause-judges
returns-in_err-groups-clause-judges g c = λ names are named.
    let nodes = c.args.nodes.now in
    let numbers = c.args.numbers.now in
    let spans = c.args.spans.now in
    exit (λ r. Judges (topology_of c.args.graph.now) (Book c.args.distance nodes numbers spans) (book_checks names nodes numbers spans) (verdict_of r))
    c.from_residual.result c.in_err-groups.field-0.0 c.from_residual.ensures.1 (c.in_err-groups.ensures.judges [] names are named)

pub returns-clause-judges : goal.returns-clause-judges
returns-clause-judges g c = λ names are named. c.in_ok-groups.ensures.judges [] names are named

use Rattle.std.proofs.Common.{map}
use Rattle.cb_validity.specs.Checks.{Judges, node_check, places}
use Rattle.cb_topo.specs.Numbered.{topology_of}
use Rattle.cb_checker.specs.Known.{verdict_of}
use Rattle.cb_checker.proofs.Joined.{exit}
use Rattle.cb_checker.proofs.book.known.Goals as goal

pub returns-in_err-check_nodes-clause-judges : goal.returns-in_err-check_nodes-clause-judges
returns-in_err-check_nodes-clause-judges c = λ whole same.
    exit (λ r. Judges (topology_of c.args.topology.now) whole (map node_check (places c.args.nodes.now)) (verdict_of r)) c.from_residual.result
    c.in_err-check_nodes.field-0.0 c.from_residual.ensures.1 (c.in_err-check_nodes.ensures.judges whole same)

pub returns-clause-judges : goal.returns-clause-judges
returns-clause-judges c = λ whole same. c.in_ok-check_nodes.ensures.judges whole same

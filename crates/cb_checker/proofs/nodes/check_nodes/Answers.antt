use Rattle.cb_topo.specs.Numbered.{topology_of}
use Rattle.cb_checker.proofs.Observed.{bad_node, good_nodes}
use Rattle.cb_checker.proofs.nodes.check_nodes.Goals as goal

pub returns-in-Some-clause-judges : goal.returns-in-Some-clause-judges
returns-in-Some-clause-judges c = λ whole same.
    bad_node (topology_of c.args.topology.now) whole c.args.nodes.now c.in-Some.place same c.in-Some.ensures.bad

pub returns-in-None-clause-judges : goal.returns-in-None-clause-judges
returns-in-None-clause-judges c = λ whole same.
    good_nodes (topology_of c.args.topology.now) whole c.args.nodes.now same c.in-None.ensures.good

use Rattle.cb_topo.specs.Numbered.{topology_of}
use Rattle.cb_explain.specs.Checking.{AreGoodNodes}
use Rattle.cb_explain.proofs.listed.first_bad_node.Given as goal

abbrev pub invariant-loop-position : goal.invariant-loop-position
invariant-loop-position l = AreGoodNodes (topology_of l.topology) l.nodes l.position

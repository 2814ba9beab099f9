use Rattle.cb_topo.specs.Numbered.{topology_of}
use Rattle.cb_validity.specs.Checks.{IsGoodNode}
use Rattle.cb_checker.specs.Firsts.{AreAll}
use Rattle.cb_checker.proofs.nodes.first_bad_node.Given as goal

abbrev pub invariant-loop-place : goal.invariant-loop-place
invariant-loop-place l = AreAll (IsGoodNode (topology_of l.topology) l.nodes) l.place

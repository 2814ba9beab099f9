use Rattle.std.proofs.Common.{take}
use Rattle.cb_topo.proofs.ByNames.{AreNodesOfInstances}
use Rattle.cb_topo.proofs.topology.Topology.sorted.Given as goal

abbrev pub invariant-loop-instance : goal.invariant-loop-instance
invariant-loop-instance l = AreNodesOfInstances l.self (take l.instance-index l.instance-items) l.nodes.items

use Rattle.std.proofs.Common.{take}
use Rattle.cb_topo.proofs.Rising.{ArePicked}
use Rattle.cb_topo.proofs.topology.Topology.picked.Given as goal

abbrev pub invariant-loop-node : goal.invariant-loop-node
invariant-loop-node l = ArePicked l.self l.kind (take l.node-index l.order) l.nodes

use Rattle.std.proofs.Common.{take}
use Rattle.cb_topo.specs.Numbered.{AreNamed}
use Rattle.cb_matrix.proofs.names.names_of.Given as goal

abbrev pub invariant-loop-node : goal.invariant-loop-node
invariant-loop-node l = AreNamed l.topology (take l.node-index l.nodes) l.names

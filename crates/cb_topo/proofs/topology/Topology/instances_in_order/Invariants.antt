use Rattle.cb_topo.proofs.ByNames.{AreNamedBelow}
use Rattle.cb_topo.proofs.topology.Topology.instances_in_order.Given as goal

abbrev pub invariant-loop-place : goal.invariant-loop-place
invariant-loop-place l = AreNamedBelow l.self.net l.place l.named.items

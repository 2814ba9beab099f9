use Rattle.cb_topo.proofs.Following.{IsPartly}
use Rattle.cb_topo.proofs.topology.Topology.with_new.Given as goal

abbrev pub invariant-loop-place : goal.invariant-loop-place
invariant-loop-place l = IsPartly l.self l.instance l.place l.order.items

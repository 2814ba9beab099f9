use Rattle.std.proofs.Common.{sym, subst}
use Rattle.cb_topo.specs.Numbered.{Numbered}
use Rattle.cb_topo.specs.Settled.{IsSettled}
use Rattle.cb_topo.proofs.topology.Topology.settle.Goals as goal

pub invariant_of-self : goal.invariant_of-self
invariant_of-self c = record {
  topology = c.self.invariant.topology;
  settled = subst (λ (n : Numbered). IsSettled n c.in_ok-order.order.items) (sym c.self.view_is) c.in_ok-order.ensures;
}

use Rattle.std.proofs.Common.{◌↔◌, Bool, sym, subst}
use Rattle.std.specs.Prelude.{IsTrue}
use Rattle.cb_topo.specs.Numbered.{Numbered, IsLiveNode}
use Rattle.cb_topo.proofs.Naming.{reported_live}
use Rattle.cb_topo.proofs.topology.Topology.is_live.Goals as goal

pub returns : goal.returns
returns c =
    let n : Numbered = record { net = c.self.inside.net; nodes = c.self.inside.nodes } in
    subst (λ (m : Numbered). IsTrue c.is_some.result ↔ IsLiveNode m c.args.node) c.self.view_is
    (subst (λ (b : Bool). IsTrue b ↔ IsLiveNode n c.args.node) (sym c.is_some.ensures) (reported_live n c.self.inside.counts c.self.invariant.topology c.args.node c.node.result c.node.ensures.found c.node.ensures.absent))

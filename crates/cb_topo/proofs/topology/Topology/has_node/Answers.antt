use Rattle.std.proofs.Common.{◌≡◌, subst, ◌∙◌}
use Rattle.cb_topo.specs.Numbered.{Numbered}
use Rattle.cb_topo.specs.Settled.{has_node}
use Rattle.cb_topo.proofs.Following.{reported_node}
use Rattle.cb_topo.proofs.topology.Topology.has_node.Goals as goal

pub returns : goal.returns
returns c = subst (λ (n : Numbered). c.is_some.result ≡ has_node n.nodes c.args.node) c.self.view_is (c.is_some.ensures ∙ reported_node c.self.inside.nodes c.args.node c.node.result c.node.ensures.found c.node.ensures.absent)

use Rattle.std.proofs.Common.{sym, subst}
use Rattle.cb_network.specs.Nodes.{IsNodeOf, IsCount}
use Rattle.cb_topo.specs.Numbered.{Numbered, topology_of}
use Rattle.cb_topo.proofs.Counted.{fits_count}
use Rattle.cb_topo.proofs.topology.Topology.node_count.Goals as goal

pub returns : goal.returns
returns c =
    let net = c.self.inside.net in
    let kept = c.self.invariant.topology in
    let counted = fits_count net c.self.inside.nodes kept.typed kept.whole kept.table.one kept.table.live kept.table.had kept.table.all in
    subst (λ (n : Numbered). IsCount (IsNodeOf (topology_of n)) c.count.result) c.self.view_is
    (subst (IsCount (IsNodeOf net.topology)) (sym c.count.ensures) counted)

use Rattle.std.proofs.Common.{subst}
use Rattle.cb_topo.specs.Numbered.{Numbered, IsWhole}
use Rattle.cb_topo.proofs.Naming.{whole}
use Rattle.cb_topo.proofs.topology.Topology.node_capacity.Goals as goal

pub returns-clause-whole : goal.returns-clause-whole
returns-clause-whole c =
    let inside : Numbered = record { net = c.self.inside.net; nodes = c.self.inside.nodes } in
    subst IsWhole c.self.view_is (whole inside c.self.inside.counts c.self.invariant.topology)

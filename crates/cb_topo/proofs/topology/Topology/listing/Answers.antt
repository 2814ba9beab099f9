use Rattle.std.proofs.Common.{subst}
use Rattle.cb_topo.specs.Numbered.{Numbered, IsWhole}
use Rattle.cb_topo.proofs.Naming.{whole}
use Rattle.cb_topo.proofs.topology.Topology.listing.Goals as goal

pub picked-requires-clause-whole : goal.picked-requires-clause-whole
picked-requires-clause-whole c =
    let seen : Numbered = record { net = c.self.inside.net; nodes = c.self.inside.nodes } in
    subst IsWhole c.self.view_is (whole seen c.self.inside.counts c.self.invariant.topology)

pub picked-requires-in-None-clause-whole : goal.picked-requires-in-None-clause-whole
picked-requires-in-None-clause-whole c =
    let seen : Numbered = record { net = c.self.inside.net; nodes = c.self.inside.nodes } in
    subst IsWhole c.self.view_is (whole seen c.self.inside.counts c.self.invariant.topology)

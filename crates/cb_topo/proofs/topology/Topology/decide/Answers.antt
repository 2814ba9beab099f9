use Rattle.cb_topo.proofs.Limits.{kept_within}
use Rattle.cb_topo.proofs.topology.Topology.decide.Goals as goal

pub decide-requires-clause-few : goal.decide-requires-clause-few
decide-requires-clause-few c = kept_within c.self.inside.net c.self.inside.nodes c.self.inside.counts c.self.invariant.topology

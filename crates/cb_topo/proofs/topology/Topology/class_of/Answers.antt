use Rattle.std.proofs.Common.{sym, subst}
use Rattle.cb_model.specs.WellTyped.{IsClass}
use Rattle.cb_instances.specs.Net.{IsLiveInstance}
use Rattle.cb_topo.specs.Numbered.{Numbered, topology_of}
use Rattle.cb_topo.proofs.topology.Topology.class_of.Goals as goal

pub returns-clause-class : goal.returns-clause-class
returns-clause-class c =
    let live = subst (λ (n : Numbered). IsLiveInstance n.net c.args.id) (sym c.self.view_is) c.requires in
    let class = c.self.invariant.topology.classed live.0 c.class_of.result (c.class_of.ensures live.0 live.1) in
    subst (λ (n : Numbered). IsClass (topology_of n).model c.class_of.result) c.self.view_is class

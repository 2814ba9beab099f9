use Rattle.std.proofs.Common.{sym, subst}
use Rattle.std.specs.Prelude.{IfNone}
use Rattle.cb_instances.specs.Net.{IsLiveInstance, HasEventAt}
use Rattle.cb_topo.specs.Numbered.{Numbered, IsWhole}
use Rattle.cb_topo.proofs.Naming.{none_weaker, whole}
use Rattle.cb_topo.proofs.topology.Topology.node_at.Goals as goal

pub returns-clause-absent : goal.returns-clause-absent
returns-clause-absent c =
    let live = subst (λ (n : Numbered). IsLiveInstance n.net c.args.instance) (sym c.self.view_is) c.requires in
    subst (λ (n : Numbered). IfNone c.node_at.result (¬ HasEventAt n.net c.args.instance c.args.event)) c.self.view_is
    (none_weaker c.node_at.result _ _ (λ none has. none (c.self.invariant.topology.table.all c.args.instance c.args.event live has)) c.node_at.ensures.absent)

pub returns-clause-whole : goal.returns-clause-whole
returns-clause-whole c =
    let inside : Numbered = record { net = c.self.inside.net; nodes = c.self.inside.nodes } in
    subst IsWhole c.self.view_is (whole inside c.self.inside.counts c.self.invariant.topology)

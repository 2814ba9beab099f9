use Rattle.std.proofs.Common.{◌≡◌, sym, subst}
use Rattle.cb_change.specs.Costs.{CountsAtMost, IsEditCost}
use Rattle.cb_network.specs.declared.edit.Edit.{Edit}
use Rattle.cb_network.specs.Laws.{HasGoodName}
use Rattle.cb_topo.specs.Accepted.{IsDecided}
use Rattle.cb_topo.specs.Applied.{Applies}
use Rattle.cb_topo.specs.Numbered.{Numbered, topology_of}
use Rattle.cb_undo.specs.Recorded.{KeepsInverse}
use Rattle.cb_undo.proofs.record.record.Goals as goal

pub record_accepted-requires-clause-name : goal.record_accepted-requires-clause-name
record_accepted-requires-clause-name g c = subst HasGoodName (sym c.in_ok-accepted.ensures.edit) c.requires.name

pub record_accepted-requires-clause-decided : goal.record_accepted-requires-clause-decided
record_accepted-requires-clause-decided g c =
    let path : c.topology.result.now ≡ g.N.EditedTopology.numbered c.args.network.now = c.topology.ensures in
    subst (λ (m : Numbered). IsDecided m c.in_ok-accepted.accepted) path c.in_ok-accepted.ensures.decided

pub returns-clause-made : goal.returns-clause-made
returns-clause-made g c =
    subst (λ (e : Edit). Applies (g.N.EditedTopology.numbered c.args.network.now) e (g.N.EditedTopology.numbered c.record_accepted.new.network)) c.in_ok-accepted.ensures.edit c.in_ok-record_accepted.ensures.made

pub returns-clause-keeps : goal.returns-clause-keeps
returns-clause-keeps g c =
    subst (λ (e : Edit). KeepsInverse (topology_of (g.N.EditedTopology.numbered c.args.network.now)) e c.args.depth c.args.inverses.now.items c.record_accepted.new.inverses.items)
    c.in_ok-accepted.ensures.edit c.in_ok-record_accepted.ensures.keeps

pub returns-clause-cost : goal.returns-clause-cost
returns-clause-cost g c =
    subst (λ (e : Edit). CountsAtMost (IsEditCost (topology_of (g.N.EditedTopology.numbered c.args.network.now)) e (topology_of (g.N.EditedTopology.numbered c.record_accepted.new.network))) c.args.steps.now c.record_accepted.new.steps)
    c.in_ok-accepted.ensures.edit c.in_ok-record_accepted.ensures.cost

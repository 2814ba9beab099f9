use Rattle.std.proofs.Common.{◌≡◌, OnOk, sym, subst}
use Rattle.cb_change.specs.Costs.{IsEditCost, CountsAtMost}
use Rattle.cb_network.specs.declared.edit.Edit.TheVariants.{Create}
use Rattle.cb_topo.specs.Applied.{MayGrow}
use Rattle.cb_topo.specs.Numbered.{topology_of}
use Rattle.cb_cache.specs.Cached.{Cached}
use Rattle.cb_graph.proofs.Places.{at_any_error}
use Rattle.cb_cache.proofs.cache.Cache.apply_accepted.Goals as goal

pub returns-in-Create-clause-cost : goal.returns-in-Create-clause-cost
returns-in-Create-clause-cost g c =
    subst (λ (k : Cached). OnOk c.create.result (CountsAtMost (IsEditCost (topology_of k.graph) c.args.accepted.now.edit.now (topology_of c.create.new.graph)) c.args.steps.now c.create.new.steps))
    c.self.view_is c.create.ensures.cost

pub returns-in-Link-clause-cost : goal.returns-in-Link-clause-cost
returns-in-Link-clause-cost g c =
    subst (λ (k : Cached). OnOk c.link.result (CountsAtMost (IsEditCost (topology_of k.graph) c.args.accepted.now.edit.now (topology_of c.link.new.graph)) c.args.steps.now c.link.new.steps))
    c.self.view_is c.link.ensures.cost

pub returns-in-Delete-clause-cost : goal.returns-in-Delete-clause-cost
returns-in-Delete-clause-cost g c =
    subst (λ (k : Cached). OnOk c.cut.result (CountsAtMost (IsEditCost (topology_of k.graph) c.args.accepted.now.edit.now (topology_of c.cut.new.graph)) c.args.steps.now c.cut.new.steps))
    c.self.view_is c.cut.ensures.cost

pub returns-in-Create-clause-grows : goal.returns-in-Create-clause-grows
returns-in-Create-clause-grows g c =
    let name = c.in-Create.name in
    let class = c.in-Create.class in
    let same : c.args.accepted.now.edit.now ≡ Create name class = cc in
    at_any_error c.create.result (MayGrow c.args.accepted.now.edit.now) (subst MayGrow (sym same) tt)

use Rattle.std.proofs.Common.{◌↔◌, ℕ, Bool, sym, subst}
use Rattle.cb_successors.specs.Rows.{Has}
use Rattle.cb_graph.specs.Walks.{IsRunTo}
use Rattle.cb_graph.proofs.Running.{no_run}
use Rattle.cb_graph.proofs.instances.InstanceSet.run_on.Goals as goal

pub returns-else-plus-clause-exactly : goal.returns-else-plus-clause-exactly
returns-else-plus-clause-exactly c =
    let net = c.args.topology.now.net in
    let row = c.args.self.now in
    subst (λ (plus : Bool). (k : ℕ) → Has row k ↔ IsRunTo net c.args.rel plus row k) (sym c.if-plus.false) (no_run net c.args.rel row)

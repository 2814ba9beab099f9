use Rattle.std.proofs.Common.{List, ℕ, refl, sym, subst}
use Rattle.cb_topo.specs.Numbered.{topology_of}
use Rattle.cb_outcome.specs.Costs.{members_but_of_quiet}
use Rattle.cb_chain_commands.specs.Explaining.{HaveMemberChains}
use Rattle.cb_chain_commands.proofs.Counting.{counts_same}
use Rattle.cb_chain_commands.proofs.Adding.{keeps_itself, without_chains}
use Rattle.cb_chain_commands.proofs.Explainable.{none_explained}
use Rattle.cb_chain_commands.proofs.explaining.trees_of_group.Goals as goal

pub returns-then-group-clause-same : goal.returns-then-group-clause-same
returns-then-group-clause-same g c = keeps_itself c.args.explanation.now

pub returns-then-group-clause-chains : goal.returns-then-group-clause-chains
returns-then-group-clause-chains g c = λ columns named.
    let now = c.args.explanation.now in
    let group = c.args.group.now in
    subst (λ (ts : List (List (List ℕ))). HaveMemberChains now.graph now.explainer columns group.members ts) (sym c.new.ensures)
    (without_chains now.graph now.explainer columns group.members
    (none_explained (topology_of now.graph) columns group.members ((c.requires.group columns named).quiet c.if-group.true)))

pub returns-then-group-clause-cost : goal.returns-then-group-clause-cost
returns-then-group-clause-cost g c =
    counts_same (topology_of c.args.explanation.now.graph) (members_but_of_quiet c.args.group.now.quiet c.args.group.now.members) c.args.steps.now c.args.steps.now refl

pub returns-clause-cost : goal.returns-clause-cost
returns-clause-cost g c = rw c.if-group.false c.trees_of.ensures.cost

use Rattle.std.proofs.Common.{take}
use Rattle.cb_topo.specs.Numbered.{topology_of}
use Rattle.cb_outcome.specs.Costs.{problems_explained}
use Rattle.cb_chain_commands.specs.Explaining.{HaveGroupChains, CountsFrom}
use Rattle.cb_chain_commands.proofs.Adding.{SearchesOn}
use Rattle.cb_chain_commands.proofs.explaining.trees_of_groups.Given as goal

abbrev pub invariant-loop-at : goal.invariant-loop-at
invariant-loop-at g l =
    SearchesOn l.fn.explanation l.explanation (λ columns. HaveGroupChains l.fn.explanation.graph l.explanation.explainer columns (take l.at l.groups) l.all.items)
    × CountsFrom (topology_of l.fn.explanation.graph) (problems_explained (take l.at l.groups)) l.fn.steps l.steps

use Rattle.std.proofs.Common.{take}
use Rattle.cb_topo.specs.Numbered.{topology_of}
use Rattle.cb_chain_commands.specs.Explaining.{HaveMemberChains, CountsFrom}
use Rattle.cb_chain_commands.proofs.Adding.{SearchesOn}
use Rattle.cb_chain_commands.proofs.explanation.Explanation.trees_of.Given as goal

abbrev pub invariant-loop-at : goal.invariant-loop-at
invariant-loop-at g l =
    SearchesOn l.fn.self l.self (λ columns. HaveMemberChains l.fn.self.graph l.self.explainer columns (take l.at l.members) l.trees.items)
    × CountsFrom (topology_of l.fn.self.graph) (take l.at l.members) l.fn.steps l.steps

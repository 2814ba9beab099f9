use Rattle.std.proofs.Common.{sym, subst}
use Rattle.cb_network.specs.Nodes.{IsNodeOf}
use Rattle.cb_validity.proofs.Canonicals.{problem_is_node}
use Rattle.cb_topo.specs.Numbered.{Numbered, topology_of, IsNodeNamed}
use Rattle.cb_chain_commands.proofs.Counting.{counts_one}
use Rattle.cb_chain_commands.proofs.explanation.Explanation.tree_of.Goals as goal

pub number_of-node-requires : goal.number_of-node-requires
number_of-node-requires g c =
    subst (λ (n : Numbered). IsNodeOf (topology_of n) c.args.problem.now) (sym c.topology.ensures)
    (problem_is_node (topology_of c.args.self.now.graph) c.args.problem.now c.requires.problem)

pub returns-clause-cost : goal.returns-clause-cost
returns-clause-cost g c =
    let problem = c.args.problem.now in
    let named = subst (λ (n : Numbered). IsNodeNamed n c.number_of-node.result problem) c.topology.ensures c.number_of-node.ensures in
    counts_one (topology_of c.args.self.now.graph) problem c.args.steps.now c.chains_to.new.steps (λ count is. c.chains_to.ensures.asked problem count named is)

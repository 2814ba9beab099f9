use Rattle.std.proofs.Common.{sym, ◌∙◌}
use Rattle.std.proofs.lemmas.Bool.{false≢true}
use Rattle.cb_model.specs.declared.node.NodeName.{NodeName}
use Rattle.cb_chain_commands.proofs.Levelling.{no_node, no_problem}
use Rattle.cb_chain_commands.proofs.levels.problem_named.Goals as goal

pub returns-in_default-node_named-clause-none : goal.returns-in_default-node_named-clause-none
returns-in_default-node_named-clause-none c =
    let node : NodeName = record { event = c.in-Some.event.now; instance = c.in-Some.instance.now } in
    no_node c.args.topology.now c.args.word.now node c.in-Some.ensures.parts c.in_default-node_named.ensures.absent

pub returns-else-is_problem-clause-none : goal.returns-else-is_problem-clause-none
returns-else-is_problem-clause-none c =
    let node : NodeName = record { event = c.in-Some.event.now; instance = c.in-Some.instance.now } in
    no_problem c.args.topology.now c.args.word.now node c.in-Some.ensures.parts
    (λ is. false≢true (sym c.if-is_problem.false ∙ (c.is_problem.ensures node c.in-Some-node_named.ensures.found).1 is))

use Rattle.std.proofs.Common.{ℕ, refl, subst}
use Rattle.cb_topo.specs.Numbered.{Numbered, topology_of}
use Rattle.cb_outcome.specs.Costs.{CountsNamed}
use Rattle.cb_outcome.specs.Jobs.{LevelsGives}
use Rattle.cb_file_kinds.specs.Ending.{outcome_of}
use Rattle.cb_file_kinds.proofs.Chain.{if_ok_more}
use Rattle.cb_chain_commands.proofs.Levelling.{counts_none}
use Rattle.cb_chain_commands.proofs.levels.levelling.Goals as goal

pub returns-in_err-graph-clause-cost : goal.returns-in_err-graph-clause-cost
returns-in_err-graph-clause-cost g c = counts_none c.args.topology c.args.word c.args.steps.now c.args.steps.now refl

pub returns-clause-gives : goal.returns-clause-gives
returns-clause-gives g c =
    if_ok_more c.levelled-output.result _ _ (λ output gives.
    subst (λ (n : Numbered). (whole : ℕ) → LevelsGives (topology_of n) c.args.word whole (outcome_of output whole)) c.in_ok-graph.ensures gives) c.levelled-output.ensures.gives

pub returns-clause-cost : goal.returns-clause-cost
returns-clause-cost g c =
    subst (λ (n : Numbered). CountsNamed (topology_of n) c.args.word c.args.steps.now c.levelled-output.new.steps) c.in_ok-graph.ensures c.levelled-output.ensures.cost

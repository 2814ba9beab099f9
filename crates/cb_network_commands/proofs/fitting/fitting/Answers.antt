use Rattle.std.proofs.Common.{ℕ, subst}
use Rattle.std.specs.Prelude.{IfOk}
use Rattle.cb_topo.specs.Numbered.{Numbered, topology_of}
use Rattle.cb_outcome.specs.Jobs.{PairsGives}
use Rattle.cb_file_kinds.specs.Ending.{outcome_of}
use Rattle.cb_network_commands.proofs.fitting.fitting.Goals as goal

pub returns-clause-gives : goal.returns-clause-gives
returns-clause-gives g c =
    subst (λ (n : Numbered). IfOk c.fitted-output.result (λ output. (whole : ℕ) → PairsGives (topology_of n) c.args.raised.now whole (outcome_of output whole)))
    c.in_ok-network.ensures.network c.fitted-output.ensures

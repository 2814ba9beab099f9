use Rattle.std.proofs.Common.{subst, ◌∙◌}
use Rattle.cb_finding.specs.Finding.{IsBurst}
use Rattle.cb_topo.specs.Numbered.{Numbered, topology_of}
use Rattle.cb_chain_commands.proofs.explaining.search_all.Goals as goal

pub returns-in-Ok-clause-graph : goal.returns-in-Ok-clause-graph
returns-in-Ok-clause-graph g c = c.into_graph.ensures ∙ c.in_ok-network.ensures.network

pub returns-in-Ok-clause-finding : goal.returns-in-Ok-clause-finding
returns-in-Ok-clause-finding g c =
    subst (λ (n : Numbered). IsBurst (topology_of n) c.args.raised.now c.in-Ok.finding) c.in_ok-network.ensures.network c.in-Ok.ensures

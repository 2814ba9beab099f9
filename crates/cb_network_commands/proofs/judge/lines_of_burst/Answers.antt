use Rattle.std.proofs.Common.{subst}
use Rattle.cb_finding.specs.Finding.{IsBurst}
use Rattle.cb_topo.specs.Numbered.{Numbered, topology_of}
use Rattle.cb_file_kinds.proofs.Chain.{if_ok_more}
use Rattle.cb_network_commands.proofs.judge.lines_of_burst.Goals as goal

pub returns-clause-found : goal.returns-clause-found
returns-clause-found g c =
    let found = subst (λ (n : Numbered). IsBurst (topology_of n) c.args.raised.now c.in_ok-finding.finding) c.in_ok-network.ensures.network c.in_ok-finding.ensures in
    if_ok_more c.burst_text.result _ _ (λ bytes text. (c.in_ok-finding.finding, found, text)) c.burst_text.ensures

use Rattle.std.proofs.Common.{ℕ, [], ◌∙◌, ap, subst}
use Rattle.cb_history.specs.Histories.{new_history}
use Rattle.cb_topo.specs.Numbered.{topology_of}
use Rattle.cb_network_commands.specs.Rewinding.{RunsOn}
use Rattle.cb_network_commands.proofs.rewinding.rewind_topology.Goals as goal

pub returns-in-Ok-clause-rewound : goal.returns-in-Ok-clause-rewound
returns-in-Ok-clause-rewound g c =
    let start = new_history (topology_of c.args.topology) in
    let new = c.run_script-reports.new.history in
    let ran = subst (λ (d : ℕ). RunsOn d start c.args.script.now [] c.in-Ok.reports.items (topology_of new.network) new.records) c.in_ok-history.ensures.depth
    (c.in-Ok.ensures.runs start c.in_ok-history.ensures.stands) in
    record {
      reports = ran.reports;
      last = ran.last;
      rewinds = ran.rewinds;
      now = ap topology_of c.into_network-topology.ensures ∙ ran.stands.now;
      text_is = ran.text;
    }

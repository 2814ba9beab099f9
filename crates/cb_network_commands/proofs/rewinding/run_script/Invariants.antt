use Rattle.std.proofs.Common.{◌≡◌, [], take}
use Rattle.cb_history.specs.Histories.{History}
use Rattle.cb_history.specs.Records.{StandFor}
use Rattle.cb_topo.specs.Numbered.{topology_of}
use Rattle.cb_network_commands.specs.Rewinding.{RunsOn}
use Rattle.cb_network_commands.proofs.rewinding.run_script.Given as goal

abbrev pub invariant-loop-line : goal.invariant-loop-line
invariant-loop-line g l = record {
  depth : l.history.depth ≡ l.fn.history.depth;
  steps : l.steps ≡ l.fn.steps;
  runs : (h : History) → StandFor (topology_of l.fn.history.network) l.fn.history.records h
      → RunsOn l.fn.history.depth h (take l.line-index l.script) [] l.reports.items (topology_of l.history.network) l.history.records;
}

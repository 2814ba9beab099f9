use Rattle.cb_network.specs.Topology.{empty_topology}
use Rattle.cb_topo.specs.Numbered.{topology_of}
use Rattle.cb_line_files.specs.Topologies.{LinesMake}
use Rattle.cb_text.proofs.LinesRead.{ReadTo}
use Rattle.cb_line_files.proofs.topology.read_topology.Given as goal

abbrev pub invariant-loop-line : goal.invariant-loop-line
invariant-loop-line l =
    ReadTo l.text (λ before. LinesMake (empty_topology l.fn.model) before (topology_of l.topology)) l.line-iterator l.number

use Rattle.std.proofs.Common.{ℕ, take}
use Rattle.std.specs.List.{flat_map}
use Rattle.cb_chains.specs.Names.{name_by_number}
use Rattle.cb_report.specs.Gathered.{Gathers}
use Rattle.cb_report.specs.Lines.{spaced_text}
use Rattle.cb_report.proofs.chain_lines.put_nodes.Given as goal

abbrev pub invariant-loop-node : goal.invariant-loop-node
invariant-loop-node g l =
    Gathers (g.O.Sink.tells l.fn.out) (g.O.Sink.tells l.out) l.fn.gathering l.gathering (flat_map (λ (node : ℕ). spaced_text (name_by_number l.names node)) (take l.node-index l.nodes))

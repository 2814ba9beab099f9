use Rattle.std.proofs.Common.{◌≡◌, ◌++◌, ◌∷◌, take, map, length}
use Rattle.std.specs.List.{flat_map}
use Rattle.cb_levels.specs.declared.line.LevelLine.TheVariants as line
use Rattle.cb_levels.specs.Text.{ended_line}
use Rattle.cb_levels.proofs.writer.push_nodes.Given as goal

abbrev pub invariant-loop-node : goal.invariant-loop-node
invariant-loop-node l = l.out.items ≡ l.fn.out.items ++ flat_map ended_line (line.Nodes (length l.nodes) ∷ map line.Node (take l.node-index l.nodes))

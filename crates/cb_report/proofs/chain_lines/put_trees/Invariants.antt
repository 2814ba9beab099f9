use Rattle.std.proofs.Common.{◌≡◌, length, take}
use Rattle.std.specs.List.{flat_map}
use Rattle.cb_report.specs.Gathered.{Gathers}
use Rattle.cb_report.proofs.Chained.{tree_lines}
use Rattle.cb_report.proofs.chain_lines.put_trees.Given as goal

abbrev pub invariant-loop-tree : goal.invariant-loop-tree
invariant-loop-tree g l =
    (length l.path.items ≡ length l.fn.path.items)
    × Gathers (g.O.Sink.tells l.fn.out) (g.O.Sink.tells l.out) l.fn.gathering l.gathering (flat_map (tree_lines l.names) (take l.tree-index l.trees))

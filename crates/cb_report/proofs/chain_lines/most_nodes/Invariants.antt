use Rattle.std.proofs.Common.{◌≤◌, ℕ, List, length, take}
use Rattle.std.specs.List.{All}
use Rattle.cb_report.proofs.chain_lines.most_nodes.Given as goal

abbrev pub invariant-loop-tree : goal.invariant-loop-tree
invariant-loop-tree l = All (All (λ (chain : List ℕ). length chain ≤ l.most)) (take l.tree-index l.trees) × (l.least ≤ l.most)

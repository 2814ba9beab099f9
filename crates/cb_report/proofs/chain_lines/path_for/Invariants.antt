use Rattle.std.proofs.Common.{◌≤◌, ℕ, List, length, take}
use Rattle.std.specs.List.{All}
use Rattle.cb_report.proofs.chain_lines.path_for.Given as goal

abbrev pub invariant-loop-group : goal.invariant-loop-group
invariant-loop-group l = All (All (All (λ (chain : List ℕ). length chain ≤ l.most))) (take l.group-index l.trees)

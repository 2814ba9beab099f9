use Rattle.std.proofs.Common.{◌≡◌, ℕ, List, length, map, take}
use Rattle.std.specs.List.{flat_map}
use Rattle.cb_chains.specs.Names.{name_by_number}
use Rattle.cb_report.specs.ChainTexts.{chain_line}
use Rattle.cb_report.specs.Gathered.{Gathers}
use Rattle.cb_report.proofs.chain_lines.put_tree.Given as goal

abbrev pub invariant-loop-at : goal.invariant-loop-at
invariant-loop-at g l =
    (length l.path.items ≡ length l.fn.path.items)
    × Gathers (g.O.Sink.tells l.fn.out) (g.O.Sink.tells l.out) l.fn.gathering l.gathering
    (flat_map (λ (chain : List ℕ). chain_line (map (name_by_number l.names) chain)) (take l.at l.tree))

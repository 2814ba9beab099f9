use Rattle.std.proofs.Common.{◌≡◌, length, map, take}
use Rattle.cb_chains.specs.Names.{named_chains}
use Rattle.cb_report.specs.ChainTexts.{explained_groups}
use Rattle.cb_report.specs.Gathered.{Gathers}
use Rattle.cb_report.proofs.chain_lines.put_groups.Given as goal

abbrev pub invariant-loop-place : goal.invariant-loop-place
invariant-loop-place g l =
    (length l.path.items ≡ length l.fn.path.items)
    × Gathers (g.O.Sink.tells l.fn.out) (g.O.Sink.tells l.out) l.fn.gathering l.gathering
    (explained_groups (take l.place l.groups) (map (named_chains l.names) (take l.place l.trees)))

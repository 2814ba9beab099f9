use Rattle.std.proofs.Common.{◌≡◌, ◌++◌, length, take, codes}
use Rattle.cb_report.specs.Gathered.{Gathers}
use Rattle.cb_report.specs.Lines.{counted}
use Rattle.cb_report.specs.MatrixText.{group_lines}
use Rattle.cb_report.proofs.matrix.put_groups.Given as goal

abbrev pub invariant-loop-place : goal.invariant-loop-place
invariant-loop-place g l =
    (l.digits ≡ l.fn.digits)
    × Gathers (g.O.Sink.tells l.fn.out) (g.O.Sink.tells l.out) l.fn.gathering l.gathering
    (counted (codes "groups ") (length l.groups.groups) ++ group_lines (take l.place l.groups.groups))

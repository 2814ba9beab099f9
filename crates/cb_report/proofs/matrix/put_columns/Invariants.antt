use Rattle.std.proofs.Common.{◌++◌, length, take, codes}
use Rattle.std.specs.List.{flat_map}
use Rattle.cb_report.specs.Gathered.{Gathers}
use Rattle.cb_report.specs.Lines.{counted}
use Rattle.cb_report.specs.MatrixText.{column_line}
use Rattle.cb_report.proofs.matrix.put_columns.Given as goal

abbrev pub invariant-loop-column : goal.invariant-loop-column
invariant-loop-column g l =
    Gathers (g.O.Sink.tells l.fn.out) (g.O.Sink.tells l.out) l.fn.gathering l.gathering
    (counted (codes "columns ") (length l.columns) ++ flat_map column_line (take l.column-index l.columns))

use Rattle.std.proofs.Common.{◌++◌, length, take, codes}
use Rattle.std.specs.List.{flat_map}
use Rattle.cb_report.specs.Lines.{counted}
use Rattle.cb_report.specs.MatrixText.{column_line}
use Rattle.cb_report.proofs.Gathers.{gathers_more, gathers_same, items_read}
use Rattle.cb_report.proofs.matrix.put_columns.Goals as goal

pub loop-column-preserved : goal.loop-column-preserved
loop-column-preserved g c =
    let start = g.O.Sink.tells c.args.out.now in
    let now = g.O.Sink.tells c.put_column.new.out in
    let columns = c.args.columns.now in
    let i = c.loop-column.column-index in
    let head = counted (codes "columns ") (length columns) in
    gathers_same start now c.args.gathering.now c.put_column.new.gathering ((head ++ flat_map column_line (take i columns)) ++ column_line c.column-item.result) _
    (items_read column_line head columns c.as_slice-column-items.result.now i c.column-item.result c.as_slice-column-items.ensures c.loop-column-test.true c.column-item.is)
    (gathers_more start (g.O.Sink.tells c.loop-column.out) now c.args.gathering.now c.loop-column.gathering c.put_column.new.gathering
    (head ++ flat_map column_line (take i columns)) (column_line c.column-item.result) c.loop-column.invariant c.put_column.ensures)

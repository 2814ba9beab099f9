use Rattle.std.proofs.Common.{◌++◌, codes}
use Rattle.cb_report.specs.Lines.{spaced_text}
use Rattle.cb_report.proofs.Gathers.{gathers_more}
use Rattle.cb_report.proofs.matrix.put_column.Goals as goal

pub returns : goal.returns
returns g c =
    let start = g.O.Sink.tells c.args.out.now in
    let named = g.O.Sink.tells c.put_node.new.out in
    let node = spaced_text c.args.column.now in
    gathers_more start named (g.O.Sink.tells c.put-2.new.out) c.args.gathering.now c.put_node.new.gathering c.put-2.new.self (codes "  column" ++ node) (codes "\n")
    (gathers_more start (g.O.Sink.tells c.put.new.out) named c.args.gathering.now c.put.new.self c.put_node.new.gathering (codes "  column") node c.put.ensures c.put_node.ensures)
    c.put-2.ensures

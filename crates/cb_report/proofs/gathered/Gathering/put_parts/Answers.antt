use Rattle.std.proofs.Common.{[], take}
use Rattle.std.specs.List.{flat_map}
use Rattle.cb_report.proofs.Gathers.{gathers_more, gathers_none, gathers_same, items_more}
use Rattle.cb_report.proofs.gathered.Gathering.put_parts.Goals as goal

pub loop-part-init : goal.loop-part-init
loop-part-init g c = gathers_none (g.O.Sink.tells c.args.out.now) c.args.self.now

pub loop-part-preserved : goal.loop-part-preserved
loop-part-preserved g c =
    let start = g.O.Sink.tells c.args.out.now in
    let now = g.O.Sink.tells c.put.new.out in
    gathers_same start now c.args.self.now c.put.new.self _ _
    (items_more (λ part. part.now) [] c.args.parts.now c.loop-part.part-index (record { ref_ptr = (0, 0); now = [] }) c.loop-part-test.true)
    (gathers_more start (g.O.Sink.tells c.loop-part.out) now c.args.self.now c.loop-part.self c.put.new.self
    (flat_map (λ part. part.now) (take c.loop-part.part-index c.args.parts.now)) _ c.loop-part.invariant c.put.ensures)

use Rattle.std.proofs.Common.{[], ◌++◌, take}
use Rattle.std.specs.List.{flat_map}
use Rattle.cb_report.specs.Lines.{spaced_text}
use Rattle.cb_report.proofs.Gathers.{gathers_more, gathers_none, gathers_same, items_read}
use Rattle.cb_report.proofs.put.put_members.Goals as goal

pub loop-member-init : goal.loop-member-init
loop-member-init g c = gathers_none (g.O.Sink.tells c.args.out.now) c.args.gathering.now

pub loop-member-preserved : goal.loop-member-preserved
loop-member-preserved g c =
    let start = g.O.Sink.tells c.args.out.now in
    let now = g.O.Sink.tells c.put_node.new.out in
    let members = c.args.members.now in
    let i = c.loop-member.member-index in
    gathers_same start now c.args.gathering.now c.put_node.new.gathering (flat_map spaced_text (take i members) ++ spaced_text c.member-item.result) _
    (items_read spaced_text [] members c.as_slice-member-items.result.now i c.member-item.result c.as_slice-member-items.ensures c.loop-member-test.true c.member-item.is)
    (gathers_more start (g.O.Sink.tells c.loop-member.out) now c.args.gathering.now c.loop-member.gathering c.put_node.new.gathering
    (flat_map spaced_text (take i members)) (spaced_text c.member-item.result) c.loop-member.invariant c.put_node.ensures)

use Rattle.std.proofs.Common.{take}
use Rattle.std.specs.List.{flat_map}
use Rattle.cb_report.specs.Gathered.{Gathers}
use Rattle.cb_report.specs.Lines.{spaced_text}
use Rattle.cb_report.proofs.put.put_members.Given as goal

abbrev pub invariant-loop-member : goal.invariant-loop-member
invariant-loop-member g l =
    Gathers (g.O.Sink.tells l.fn.out) (g.O.Sink.tells l.out) l.fn.gathering l.gathering (flat_map spaced_text (take l.member-index l.members))

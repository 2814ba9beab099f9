use Rattle.std.proofs.Common.{take}
use Rattle.std.specs.List.{flat_map}
use Rattle.cb_report.specs.Gathered.{Gathers}
use Rattle.cb_report.proofs.gathered.Gathering.put_parts.Given as goal

abbrev pub invariant-loop-part : goal.invariant-loop-part
invariant-loop-part g l =
    Gathers (g.O.Sink.tells l.fn.out) (g.O.Sink.tells l.out) l.fn.self l.self (flat_map (λ part. part.now) (take l.part-index l.parts))

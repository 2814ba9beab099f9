use Rattle.std.proofs.Common.{◌*◌}
use Rattle.std.specs.Slice.Scan.{HoldsNowhere}
use Rattle.cb_lanes.specs.Words.{in_not}
use Rattle.cb_lanes.proofs.seek.next_in_a_not_b.Given as goal

-- no such bit in the words before this one
abbrev pub invariant-loop-i : goal.invariant-loop-i
invariant-loop-i l = HoldsNowhere (in_not l.a l.b) l.from (64 * l.i)

use Rattle.std.proofs.Common.{◌*◌, ◌/◌, length}
use Rattle.cb_lanes.specs.Parts.{SameWords}
use Rattle.cb_lanes.proofs.compare.rest_is_same.Given as goal

-- the words so far are the same
abbrev pub invariant-loop-i : goal.invariant-loop-i
invariant-loop-i l = SameWords l.a l.b (4 * (length l.a / 4)) l.i

use Rattle.std.proofs.Common.{◌*◌}
use Rattle.cb_lanes.specs.Parts.{SameWords}
use Rattle.cb_lanes.proofs.compare.lanes_are_same.Given as goal

-- the lanes so far are the same
abbrev pub invariant-loop-lane : goal.invariant-loop-lane
invariant-loop-lane l = SameWords l.a l.b 0 (4 * l.lane)

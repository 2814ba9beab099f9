use Rattle.std.proofs.Common.{◌*◌}
use Rattle.cb_lanes.specs.Parts.{WordsApart}
use Rattle.cb_lanes.proofs.compare.lanes_are_apart.Given as goal

-- the lanes so far have no bit in common
abbrev pub invariant-loop-lane : goal.invariant-loop-lane
invariant-loop-lane l = WordsApart l.a l.b 0 (4 * l.lane)

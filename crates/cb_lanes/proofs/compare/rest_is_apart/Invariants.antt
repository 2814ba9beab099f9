use Rattle.std.proofs.Common.{◌*◌, ◌/◌, length}
use Rattle.cb_lanes.specs.Parts.{WordsApart}
use Rattle.cb_lanes.proofs.compare.rest_is_apart.Given as goal

-- the words so far have no bit in common
abbrev pub invariant-loop-i : goal.invariant-loop-i
invariant-loop-i l = WordsApart l.a l.b (4 * (length l.a / 4)) l.i

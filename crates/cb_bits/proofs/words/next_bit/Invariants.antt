use Rattle.std.proofs.Common.{◌*◌, []}
use Rattle.std.specs.Slice.Scan.{HoldsNowhere}
use Rattle.cb_lanes.specs.Words.{in_not}
use Rattle.cb_bits.proofs.words.next_bit.Given as goal

-- no such bit in the words before this one
abbrev pub invariant-loop-i : goal.invariant-loop-i
invariant-loop-i l = HoldsNowhere (in_not l.words []) l.from (64 * l.i)

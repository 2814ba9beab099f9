use Rattle.std.proofs.Common.{◌*◌, [], bit_xor}
use Rattle.std.specs.Simd.Lanes.{zip2}
use Rattle.std.specs.Slice.Scan.{HoldsNowhere}
use Rattle.cb_lanes.specs.Words.{in_not}
use Rattle.cb_compact.proofs.apart.next_difference.Given as goal

-- no difference in the words before this one
abbrev pub invariant-loop-i : goal.invariant-loop-i
invariant-loop-i l = HoldsNowhere (in_not (zip2 bit_xor l.a l.b) []) l.from (64 * l.i)

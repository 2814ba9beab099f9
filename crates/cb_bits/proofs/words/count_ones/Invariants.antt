use Rattle.std.proofs.Common.{◌≡◌, take}
use Rattle.std.specs.List.{sum_by}
use Rattle.std.specs.Prelude.{count_ones}
use Rattle.cb_bits.proofs.words.count_ones.Given as goal

-- the ones of the words so far
abbrev pub invariant-loop-i : goal.invariant-loop-i
invariant-loop-i l = l.count ≡ sum_by count_ones (take l.i l.words)

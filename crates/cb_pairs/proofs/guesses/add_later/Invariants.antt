use Rattle.std.proofs.Common.{◌≡◌, ◌++◌, ◌+◌, ◌-◌, map}
use Rattle.std.specs.List.{range_with_len}
use Rattle.cb_pairs.specs.Guesses.{both}
use Rattle.cb_pairs.proofs.guesses.add_later.Given as goal

abbrev pub invariant-loop-second : goal.invariant-loop-second
invariant-loop-second l = l.guesses.items ≡ l.fn.guesses.items ++ map (both l.first) (range_with_len (l.first + 1) (l.second - (l.first + 1)))

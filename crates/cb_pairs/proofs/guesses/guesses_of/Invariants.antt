use Rattle.std.proofs.Common.{◌≡◌, ◌++◌, ◌-◌, map}
use Rattle.std.specs.List.{flat_map, range_with_len}
use Rattle.cb_pairs.specs.Guesses.{alone, with_later}
use Rattle.cb_pairs.proofs.guesses.guesses_of.Given as goal

abbrev pub invariant-loop-group : goal.invariant-loop-group
invariant-loop-group l = l.guesses.items ≡ map alone (range_with_len 0 l.group)

abbrev pub invariant-loop-first : goal.invariant-loop-first
invariant-loop-first l = l.guesses.items ≡ map alone (range_with_len 0 l.count) ++ flat_map (with_later l.count) (range_with_len 1 (l.first - 1))

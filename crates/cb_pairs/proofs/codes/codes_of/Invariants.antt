use Rattle.std.proofs.Common.{◌≡◌, map, take}
use Rattle.cb_pairs.specs.Guesses.{guess_code}
use Rattle.cb_pairs.proofs.codes.codes_of.Given as goal

abbrev pub invariant-loop-at : goal.invariant-loop-at
invariant-loop-at l = l.codes ≡ map (guess_code l.rows) (take l.at l.guesses)

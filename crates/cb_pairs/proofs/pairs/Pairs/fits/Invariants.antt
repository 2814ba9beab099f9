use Rattle.std.proofs.Common.{◌≡◌, ◌==◌, length, take}
use Rattle.std.specs.List.{filter}
use Rattle.cb_coding.specs.Distance.{distance, all_columns}
use Rattle.cb_pairs.specs.Guesses.{guess_code}
use Rattle.cb_pairs.proofs.pairs.Pairs.fits.Given as goal

abbrev pub invariant-loop-at : goal.invariant-loop-at
invariant-loop-at l =
    l.guesses.items ≡ filter (λ g. distance (all_columns (length l.word)) l.word (guess_code l.self.rows g) == l.distance) (take l.at l.self-inside.guesses)

-- Pairs as they are made.
use Rattle.std.proofs.Common.{◌≡◌, ℕ, ◌<◌, List, length, map, Bool, ap, ◌∙◌}
use Rattle.cb_coding.specs.Distance.{HaveWidth}
use Rattle.cb_codes.specs.Codes.{Coded}
use Rattle.cb_pairs.specs.declared.guess.Guess.{Guess}
use Rattle.cb_pairs.specs.Guesses.{guesses_of, guess_code}
use Rattle.cb_pairs.specs.Kept.{AreGuessCodes, IsLeastApart}
use Rattle.cb_pairs.proofs.Coded.{codes_wide}
use Rattle.cb_pairs.proofs.Searching.{separation_is}

module _ (groups : Coded) (guesses : List Guess) (rows : List (List Bool)) (codes : List (List Bool)) (guesses_are : guesses ≡ guesses_of (length groups.rows))
    (rows_are : rows ≡ groups.rows) (codes_are : codes ≡ map (guess_code rows) guesses) where
  made_codes : codes ≡ map (guess_code groups.rows) guesses
  made_codes = codes_are ∙ ap (λ rs. map (guess_code rs) guesses) rows_are

  pub made_wide : HaveWidth groups.width groups.rows → HaveWidth groups.width codes
  made_wide wide = codes_wide groups.rows codes (made_codes ∙ ap (map (guess_code groups.rows)) guesses_are) groups.width wide

  pub made_pairs : 0 < length groups.rows → groups.width < 4294967296 → HaveWidth groups.width groups.rows → (s : ℕ) → IsLeastApart groups.width codes s
      → AreGuessCodes groups guesses codes s
  made_pairs some narrow wide s least = record {
    some = some;
    narrow = narrow;
    guesses_are = guesses_are;
    codes_are = made_codes;
    apart = separation_is groups.width groups.rows codes wide (made_codes ∙ ap (map (guess_code groups.rows)) guesses_are) s least;
  }

-- The codes of all guesses, in their order.
use Rattle.std.proofs.Common.{◌≡◌, ℕ, ◌<◌, List, [], length, map, get_or, Bool, Some, sym, ap, ◌∙◌, arith}
use Rattle.std.specs.Prelude.{slice_get}
use Rattle.std.proofs.lemmas.List.{get_or-map, length-map}
use Rattle.std.proofs.lemmas.List.Elements.{Contains-get_or}
use Rattle.std.proofs.lemmas.Option.{same_Some}
use Rattle.cb_model.proofs.Spread.{map_at}
use Rattle.cb_coding.specs.Distance.{code_at, HaveWidth}
use Rattle.cb_pairs.specs.declared.guess.Guess.{Guess}
use Rattle.cb_codes.specs.Codes.{Coded}
use Rattle.cb_pairs.specs.Kept.{AreGuessCodes}
use Rattle.cb_pairs.specs.Guesses.{alone, guesses_of, IsGuess, guess_code}
use Rattle.cb_pairs.proofs.Apart.{guess_wide}
use Rattle.cb_pairs.proofs.Guessing.{some_guess}
use Rattle.cb_pairs.proofs.Lists.{same_default}

abbrev pub AreCodes : List (List Bool) → List (List Bool) → Type 0
AreCodes groups codes = codes ≡ map (guess_code groups) (guesses_of (length groups))

module _ (groups : List (List Bool)) (codes : List (List Bool)) (are : AreCodes groups codes) where
  abbrev all : List Guess
  all = guesses_of (length groups)

  as_many : length codes ≡ length all
  as_many = ap length are ∙ length-map all (guess_code groups)

  at_place : (i : ℕ) (g : Guess) → i < length all → code_at codes i ≡ guess_code groups (get_or all i g)
  at_place i g low = ap (λ cs. code_at cs i) are ∙ get_or-map (guess_code groups) all i g [] low

  -- the position of a guess
  pub place_of : (g : Guess) → IsGuess groups g → (i : ℕ) × (i < length codes) × (code_at codes i ≡ guess_code groups g)
  place_of g (i, low, is) = (i, let many = as_many in omega arith, at_place i g low ∙ ap (guess_code groups) is)

  -- the guess at a position
  pub guess_at : (i : ℕ) → i < length codes → (g : Guess) × IsGuess groups g × (guess_code groups g ≡ code_at codes i)
  guess_at i low =
      let many = as_many in
      let within : i < length all = omega arith in
      (get_or all i (alone 0), Contains-get_or all i (alone 0) within, sym (at_place i (alone 0) within))

  pub some_codes : 0 < length groups → 0 < length codes
  some_codes some = let at = place_of (alone 0) (some_guess (length groups) some) in let low = at.1 in omega arith

  pub codes_wide : (width : ℕ) → HaveWidth width groups → HaveWidth width codes
  codes_wide width wide i d low =
      let g = guess_at i low in
      let here : get_or codes i d ≡ code_at codes i = same_default codes i d [] low in
      ap length (here ∙ sym g.2) ∙ guess_wide width groups wide g.0 g.1

  -- the code beside a guess is its own
  pub code_beside : (guesses : List Guess) → guesses ≡ all → (i : ℕ) (g : Guess) (code : List Bool) → slice_get guesses i ≡ Some g
      → slice_get codes i ≡ Some code → code ≡ guess_code groups g
  code_beside guesses same i g code at_g at_code =
      let there = map_at (guess_code groups) all i code (ap (λ cs. slice_get cs i) (sym are) ∙ at_code) in
      let one : there.0 ≡ g = same_Some _ _ (sym there.1 ∙ (ap (λ gs. slice_get gs i) (sym same) ∙ at_g)) in
      sym there.2 ∙ ap (guess_code groups) one

-- the codes of pairs
pub pairs_codes : (groups : Coded) (guesses : List Guess) (codes : List (List Bool)) (separation : ℕ) → AreGuessCodes groups guesses codes separation
    → AreCodes groups.rows codes
pairs_codes groups guesses codes separation are = are.codes_are ∙ ap (map (guess_code groups.rows)) are.guesses_are

pub as_many_guesses : (groups : Coded) (guesses : List Guess) (codes : List (List Bool)) (separation : ℕ) → AreGuessCodes groups guesses codes separation
    → length codes ≡ length guesses
as_many_guesses groups guesses codes separation are = ap length are.codes_are ∙ length-map guesses (guess_code groups.rows)

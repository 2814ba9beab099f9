-- The guesses that fit a word.
use Rattle.std.specs.Prelude.{◌≡◌, ◌↔◌, ⊤, ℕ, ◌≤◌, ◌<◌, ◌==◌, List, length, Bool, IsTrue}
use Rattle.std.specs.List.{filter}
use Rattle.cb_coding.specs.Distance.{distance, all_columns}
use Rattle.cb_coding.specs.Answers.{radius}
use Rattle.cb_pairs.specs.declared.guess.Guess.{Guess}
use Rattle.cb_pairs.specs.declared.guess.Fits.{Fits}
use Rattle.cb_pairs.specs.declared.guess.PairFault.{PairFault}
use Rattle.cb_pairs.specs.declared.guess.PairFault.TheVariants.{TooManyGroups, NoMemory}
use Rattle.cb_pairs.specs.Guesses.{guesses_of, IsGuess, guess_code}
use Rattle.cb_pairs.specs.Separation.{IsSeparation}

-- at how many of all columns the code of a guess differs from a word
abbrev pub from_guess : ℕ → List (List Bool) → List Bool → Guess → ℕ
from_guess width codes word guess = distance (all_columns width) word (guess_code codes guess)

-- the nearest guesses to a word: how far they are, exactly which they are, in order, and whether that is within the radius
pub record AreFits (width : ℕ) (codes : List (List Bool)) (word : List Bool) (fits : Fits) : Type 0 where
  pub attained : (g : Guess) × IsGuess codes g × (from_guess width codes word g ≡ fits.distance)
  pub least : (g : Guess) → IsGuess codes g → fits.distance ≤ from_guess width codes word g
  pub nearest : fits.guesses ≡ filter (λ g. from_guess width codes word g == fits.distance) (guesses_of (length codes))
  pub separation : ℕ
  pub separation_is : IsSeparation width codes separation
  pub sure : IsTrue fits.sure ↔ (fits.distance ≤ radius separation)

-- guesses are made of at most as many groups
abbrev pub group_limit : ℕ
group_limit = 128

-- there are too many groups, or there was no memory
abbrev pub ArePairsRefused : ℕ → PairFault → Type 0
ArePairsRefused count (TooManyGroups groups) = (groups ≡ count) × (group_limit < count)
ArePairsRefused count NoMemory = ⊤

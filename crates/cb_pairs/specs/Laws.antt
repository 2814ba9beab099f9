-- What holds of guesses, whatever the program does.
use Rattle.std.specs.Prelude.{◌≡◌, ◌↔◌, ℕ, ◌<◌, ◌≤◌, List, Bool, IsTrue, Option, None, Some}
use Rattle.std.specs.List.{Contains}
use Rattle.cb_coding.specs.Distance.{HaveWidth}
use Rattle.cb_coding.specs.Answers.{radius}
use Rattle.cb_pairs.specs.declared.guess.Guess.{Guess}
use Rattle.cb_pairs.specs.declared.guess.Fits.{Fits}
use Rattle.cb_pairs.specs.Guesses.{guesses_of, IsGuess, guess_code}
use Rattle.cb_pairs.specs.Separation.{IsSeparation}
use Rattle.cb_pairs.specs.Fits.{AreFits, from_guess}

-- one group, or two of them that aren't the first, by their positions
abbrev pub NamesGroups : ℕ → ℕ → Option ℕ → Type 0
NamesGroups count first None = first < count
NamesGroups count first (Some second) = (0 < first) × (first < second) × (second < count)

-- exactly these are guesses
abbrev pub GuessesNameGroups : Type 0
GuessesNameGroups = (count : ℕ) (g : Guess) → Contains (guesses_of count) g ↔ NamesGroups count g.first g.second

-- codes have one separation
abbrev pub SeparationIsOne : Type 0
SeparationIsOne = (width : ℕ) (codes : List (List Bool)) (r s : ℕ) → IsSeparation width codes r → IsSeparation width codes s → r ≡ s

-- it isn't 0
abbrev pub SeparationIsPositive : Type 0
SeparationIsPositive = (width : ℕ) (codes : List (List Bool)) (s : ℕ) → HaveWidth width codes → IsSeparation width codes s → 0 < s

-- a word has one answer
abbrev pub FitsAreOne : Type 0
FitsAreOne = (width : ℕ) (codes : List (List Bool)) (word : List Bool) (a b : Fits) → AreFits width codes word a → AreFits width codes word b → a ≡ b

-- Where a word differs from the code of a guess at no more columns than the radius, exactly the guesses with that code are listed, and it is sure.
abbrev pub WithinRadiusIsListed : Type 0
WithinRadiusIsListed = (width : ℕ) (codes : List (List Bool)) (word : List Bool) (s : ℕ) (fits : Fits) → HaveWidth width codes
    → IsSeparation width codes s → AreFits width codes word fits → (g : Guess) → IsGuess codes g
    → from_guess width codes word g ≤ radius s
    → IsTrue fits.sure × ((h : Guess) → Contains fits.guesses h ↔ (IsGuess codes h × (guess_code codes h ≡ guess_code codes g)))

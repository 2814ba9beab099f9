-- Guesses: one group, or two at once.
use Rattle.std.specs.Prelude.{⊤, ◌||◌, ℕ, ◌+◌, ◌-◌, ◌<◌, List, ◌++◌, length, map, Bool, Option, None, Some}
use Rattle.std.specs.List.{Contains, flat_map, range_with_len}
use Rattle.std.specs.Simd.Lanes.{zip2}
use Rattle.cb_coding.specs.Distance.{code_at}
use Rattle.cb_pairs.specs.declared.guess.Guess.{Guess}

-- one group
abbrev pub alone : ℕ → Guess
alone first = record { first = first; second = None }

-- two groups at once
abbrev pub both : ℕ → ℕ → Guess
both first second = record { first = first; second = Some second }

-- a group with each later one, in order
abbrev pub with_later : ℕ → ℕ → List Guess
with_later count first = map (both first) (range_with_len (first + 1) (count - (first + 1)))

-- each group alone, in order, and then each two of them but the first, which is quiet, by first and second position
abbrev pub guesses_of : ℕ → List Guess
guesses_of count = map alone (range_with_len 0 count) ++ flat_map (with_later count) (range_with_len 1 (count - 1))

-- the guess is one of groups with these codes
abbrev pub IsGuess : List (List Bool) → Guess → Type 0
IsGuess codes guess = Contains (guesses_of (length codes)) guess

-- true where one of two codes is
abbrev pub united : List Bool → List Bool → List Bool
united v w = zip2 (λ one other. one || other) v w

-- a code with that of a second group, if there is one
abbrev pub with_second : List (List Bool) → List Bool → Option ℕ → List Bool
with_second codes code None = code
with_second codes code (Some second) = united code (code_at codes second)

-- the code of a guess
abbrev pub guess_code : List (List Bool) → Guess → List Bool
guess_code codes guess = with_second codes (code_at codes guess.first) guess.second

-- the position of a second group, where there is one, is below the number of groups
abbrev pub IsSecondBelow : ℕ → Option ℕ → Type 0
IsSecondBelow count None = ⊤
IsSecondBelow count (Some second) = second < count

-- both positions are those of groups
pub record IsOfGroups (count : ℕ) (guess : Guess) : Type 0 where
  pub first : guess.first < count
  pub second : IsSecondBelow count guess.second

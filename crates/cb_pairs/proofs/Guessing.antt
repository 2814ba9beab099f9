-- Which guesses there are.
use Rattle.std.proofs.Common.{◌≡◌, ◌↔◌, ℕ, ◌+◌, ◌-◌, ◌<◌, List, [], ◌∷◌, ◌++◌, map, get_or, Option, None, Some, refl, sym, ap, ◌∙◌, inl, inr, arith}
use Rattle.std.specs.List.{All, Contains, flat_map, range_with_len}
use Rattle.std.proofs.lemmas.List.FromFn.{map-range_with_len_more}
use Rattle.std.proofs.lemmas.List.Concat.{flat_map-append}
use Rattle.std.proofs.lemmas.List.{append-nil}
use Rattle.std.proofs.lemmas.List.Elements.{Contains-append_left, Contains-append_right, Contains-append_cases, Contains-get_or}
use Rattle.cb_pairs.specs.declared.guess.Guess.{Guess}
use Rattle.cb_pairs.specs.Guesses.{alone, both, with_later, guesses_of, IsOfGroups, IsSecondBelow}
use Rattle.cb_pairs.specs.Laws.{NamesGroups}
use Rattle.cb_pairs.proofs.Lists.{in_range, range_has, from_mapped, mapped_has, from_joined, joined_has}

abbrev guess : ℕ → Option ℕ → Guess
guess first second = record { first = first; second = second }

-- the guesses of two
abbrev twos : ℕ → List Guess
twos count = flat_map (with_later count) (range_with_len 1 (count - 1))

from_later : (count first : ℕ) (g : Guess) → Contains (with_later count first) g → (second : ℕ) × (first < second) × (second < count) × (both first second ≡ g)
from_later count first g has =
    let from = from_mapped (both first) (range_with_len (first + 1) (count - (first + 1))) g has in
    let within = in_range (first + 1) (count - (first + 1)) from.0 from.1 in
    let low = within.0 in
    let high = within.1 in
    (from.0, omega arith, omega arith, from.2)

from_alone : (count : ℕ) (g : Guess) → Contains (map alone (range_with_len 0 count)) g → (first : ℕ) × (first < count) × (alone first ≡ g)
from_alone count g has =
    let from = from_mapped alone (range_with_len 0 count) g has in
    let within = in_range 0 count from.0 from.1 in
    let high = within.1 in
    (from.0, omega arith, from.2)

from_twos : (count : ℕ) (g : Guess) → Contains (twos count) g
    → (first second : ℕ) × (0 < first) × (first < second) × (second < count) × (both first second ≡ g)
from_twos count g has =
    let from = from_joined (with_later count) (range_with_len 1 (count - 1)) g has in
    let within = in_range 1 (count - 1) from.0 from.1 in
    let low = within.0 in
    let later = from_later count from.0 g from.2 in
    (from.0, later.0, omega arith, later.1, later.2, later.3)

names : (count first : ℕ) (second : Option ℕ) → Contains (guesses_of count) (guess first second) → NamesGroups count first second
names count first None has =
    elim (Contains-append_cases (map alone (range_with_len 0 count)) (twos count) (guess first None) has) [
      | inl one ↦
          let from = from_alone count (guess first None) one in
          let e : from.0 ≡ first = ap (λ (g : Guess). g.first) from.2 in
          let low = from.1 in
          omega arith
      | inr two ↦
          let from = from_twos count (guess first None) two in
          let e : Some from.1 ≡ None = ap (λ (g : Guess). g.second) from.5 in
          absurd (cc)
    ]
names count first (Some second) has =
    elim (Contains-append_cases (map alone (range_with_len 0 count)) (twos count) (guess first (Some second)) has) [
      | inl one ↦
          let from = from_alone count (guess first (Some second)) one in
          let e : None ≡ Some second = ap (λ (g : Guess). g.second) from.2 in
          absurd (cc)
      | inr two ↦
          let from = from_twos count (guess first (Some second)) two in
          let e : from.0 ≡ first = ap (λ (g : Guess). g.first) from.5 in
          let f : Some from.1 ≡ Some second = ap (λ (g : Guess). g.second) from.5 in
          let f' : from.1 ≡ second = cc in
          let a = from.2 in
          let b = from.3 in
          let c = from.4 in
          (omega arith, omega arith, omega arith)
    ]

is_guess : (count first : ℕ) (second : Option ℕ) → NamesGroups count first second → Contains (guesses_of count) (guess first second)
is_guess count first None low =
    Contains-append_left (map alone (range_with_len 0 count)) (twos count) (alone first) (mapped_has alone (range_with_len 0 count) first (range_has 0 count first (omega arith) (omega arith)))
is_guess count first (Some second) (some, below, low) =
    Contains-append_right (map alone (range_with_len 0 count)) (twos count) (both first second)
    (joined_has (with_later count) (range_with_len 1 (count - 1)) first (both first second) (range_has 1 (count - 1) first (omega arith) (omega arith))
    (mapped_has (both first) (range_with_len (first + 1) (count - (first + 1))) second (range_has (first + 1) (count - (first + 1)) second (omega arith) (omega arith))))

pub guesses_name_groups : (count : ℕ) (g : Guess) → Contains (guesses_of count) g ↔ NamesGroups count g.first g.second
guesses_name_groups count g = (names count g.first g.second, is_guess count g.first g.second)

-- the positions in a guess are those of groups
second_below : (count first : ℕ) (second : Option ℕ) → NamesGroups count first second → (first < count) × IsSecondBelow count second
second_below count first None low = (low, tt)
second_below count first (Some second) (some, below, low) = (omega arith, low)

pub guess_of_groups : (count : ℕ) (g : Guess) → Contains (guesses_of count) g → IsOfGroups count g
guess_of_groups count g has =
    let both_below = second_below count g.first g.second (names count g.first g.second has) in
    record { first = both_below.0; second = both_below.1 }

pub guesses_of_groups : (count : ℕ) → All (IsOfGroups count) (guesses_of count)
guesses_of_groups count k d low = guess_of_groups count (get_or (guesses_of count) k d) (Contains-get_or (guesses_of count) k d low)

-- the first guess
pub some_guess : (count : ℕ) → 0 < count → Contains (guesses_of count) (alone 0)
some_guess count some = is_guess count 0 None some

-- one more of a range
pub mapped_more : {X : Type 0} (f : ℕ → X) (a n j : ℕ) → a + n ≡ j → map f (range_with_len a (n + 1)) ≡ map f (range_with_len a n) ++ f j ∷ []
mapped_more f a n j same = map-range_with_len_more f a n j same

one_more_of : (a n j : ℕ) → a + n ≡ j → range_with_len a (n + 1) ≡ range_with_len a n ++ j ∷ []
one_more_of a n j same = sym (itself (range_with_len a (n + 1))) ∙ (mapped_more (λ k. k) a n j same ∙ ap (λ ks. ks ++ j ∷ []) (itself (range_with_len a n)))
  where
    itself : (xs : List ℕ) → map (λ k. k) xs ≡ xs
    itself [] = refl
    itself (x ∷ xs) = ap (λ ys. x ∷ ys) (itself xs)

pub joined_more : {X : Type 0} (f : ℕ → List X) (a n j : ℕ) → a + n ≡ j → flat_map f (range_with_len a (n + 1)) ≡ flat_map f (range_with_len a n) ++ f j
joined_more f a n j same =
    ap (flat_map f) (one_more_of a n j same) ∙ (flat_map-append f (range_with_len a n) (j ∷ []) ∙ ap (λ ys. flat_map f (range_with_len a n) ++ ys) (append-nil (f j)))

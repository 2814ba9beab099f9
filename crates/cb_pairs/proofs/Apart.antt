-- How far guesses are apart.
use Rattle.std.proofs.Common.{◌≡◌, ◌≢◌, ℕ, ◌+◌, ◌<◌, List, [], ◌∷◌, length, Bool, true, false, cond, ◌||◌, Option, None, Some, refl, sym, ap, subst, ◌∙◌, inl, inr, arith}
use Rattle.std.specs.List.{count_by}
use Rattle.std.proofs.lemmas.Bool.{cases_eq}
use Rattle.std.proofs.lemmas.Simd.{length-zip2}
use Rattle.std.proofs.lemmas.List.Sums.{sum_by-cons}
use Rattle.cb_coding.specs.Distance.{differ, bit, distance, all_columns, code_at, HaveWidth}
use Rattle.cb_coding.proofs.Distances.{same_where_zero}
use Rattle.cb_pairs.specs.declared.guess.Guess.{Guess}
use Rattle.cb_pairs.specs.Guesses.{IsGuess, guess_code, with_second, IsSecondBelow}
use Rattle.cb_pairs.specs.Separation.{guesses_apart, IsSeparation}
use Rattle.cb_pairs.proofs.Guessing.{guess_of_groups}

-- a code is nowhere apart from itself, and two codes as far from each other either way
own_bit : (b : Bool) → differ b b ≡ false
own_bit true = refl
own_bit false = refl

none_counted : (p : ℕ → Bool) (columns : List ℕ) → ((k : ℕ) → p k ≡ false) → count_by p columns ≡ 0
none_counted p [] none = refl
none_counted p (k ∷ ks) none =
    let rest = none_counted p ks none in
    let none_more : 0 + count_by p ks ≡ count_by p ks = omega arith in
    let first : count_by p (k ∷ ks) ≡ cond (p k) 1 0 + count_by p ks = sum_by-cons (λ x. cond (p x) 1 0) k ks in
    first ∙ (ap (λ b. cond b 1 0 + count_by p ks) (none k) ∙ (none_more ∙ rest))

pub own_distance : (width : ℕ) (v w : List Bool) → v ≡ w → distance (all_columns width) v w ≡ 0
own_distance width v w same =
    subst (λ u. distance (all_columns width) v u ≡ 0) same (none_counted (λ k. differ (bit v k) (bit v k)) (all_columns width) (λ k. own_bit (bit v k)))

differ_turned : (a b : Bool) → differ a b ≡ differ b a
differ_turned true true = refl
differ_turned true false = refl
differ_turned false true = refl
differ_turned false false = refl

pub turned : (columns : List ℕ) (v w : List Bool) → distance columns v w ≡ distance columns w v
turned columns v w = λ i. count_by (λ k. differ_turned (bit v k) (bit w k) i) columns

pub separation_is_one : (width : ℕ) (codes : List (List Bool)) (r s : ℕ) → IsSeparation width codes r → IsSeparation width codes s → r ≡ s
separation_is_one width codes r s a b =
    elim a.attained [
      | inl x ↦ elim b.attained [
        | inl y ↦
            let up = a.least y.one y.other y.differ in
            let down = b.least x.one x.other x.differ in
            let here = x.is in
            let there = y.is in
            omega arith
        | inr y ↦ let d = x.differ in absurd (d.differ (y.same x.one x.other d.first d.second))
      ]
      | inr x ↦ elim b.attained [
        | inl y ↦ let d = y.differ in absurd (d.differ (x.same y.one y.other d.first d.second))
        | inr y ↦ x.is ∙ sym y.is
      ]
    ]

-- codes of guesses have the width of the groups' codes
code_wide : (width : ℕ) (codes : List (List Bool)) → HaveWidth width codes → (i : ℕ) → i < length codes → length (code_at codes i) ≡ width
code_wide width codes wide i low = wide i [] low

with_second_wide : (width : ℕ) (codes : List (List Bool)) → HaveWidth width codes → (code : List Bool) → length code ≡ width → (second : Option ℕ)
    → IsSecondBelow (length codes) second → length (with_second codes code second) ≡ width
with_second_wide width codes wide code long None below = long
with_second_wide width codes wide code long (Some second) below =
    length-zip2 (λ one other. one || other) code (code_at codes second) (long ∙ sym (code_wide width codes wide second below)) ∙ long

pub guess_wide : (width : ℕ) (codes : List (List Bool)) → HaveWidth width codes → (g : Guess) → IsGuess codes g → length (guess_code codes g) ≡ width
guess_wide width codes wide g is =
    let of_groups = guess_of_groups (length codes) g is in
    with_second_wide width codes wide (code_at codes g.first) (code_wide width codes wide g.first of_groups.first) g.second of_groups.second

-- codes of guesses that are less apart than the separation are one
pub same_within : (width : ℕ) (codes : List (List Bool)) (s : ℕ) → HaveWidth width codes → IsSeparation width codes s → (g h : Guess) → IsGuess codes g
    → IsGuess codes h → guesses_apart width codes g h < s → guess_code codes g ≡ guess_code codes h
same_within width codes s wide is g h is_g is_h near =
    elim (cases_eq (guesses_apart width codes g h) 0) [
      | inl none ↦ same_where_zero width (guess_code codes g) (guess_code codes h) (guess_wide width codes wide g is_g) (guess_wide width codes wide h is_h) none
      | inr some ↦
          let differ : guess_code codes g ≢ guess_code codes h = λ same. some (own_distance width (guess_code codes g) (guess_code codes h) same) in
          let far = is.least g h (record { first = is_g; second = is_h; differ = differ }) in
          absurd (omega arith)
    ]

pub separation_is_positive : (width : ℕ) (codes : List (List Bool)) (s : ℕ) → HaveWidth width codes → IsSeparation width codes s → 0 < s
separation_is_positive width codes s wide is =
    elim is.attained [
      | inl x ↦ elim (cases_eq s 0) [
        | inl none ↦
            let d = x.differ in
            let e = x.is in
            absurd (d.differ (same_where_zero width (guess_code codes x.one) (guess_code codes x.other) (guess_wide width codes wide x.one d.first)
            (guess_wide width codes wide x.other d.second) (omega arith)))
        | inr some ↦ omega arith
      ]
      | inr x ↦ let e = x.is in omega arith
    ]

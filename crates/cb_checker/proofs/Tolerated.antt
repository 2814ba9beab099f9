-- Radii that are stated, beside those of the groups.
use Rattle.std.proofs.Common.{◌≡◌, max, min, ℕ, ◌+◌, ◌<◌, ◌≤◌, List, length, sym, ap, subst, ◌∙◌, arith, inl, inr, Some, None}
use Rattle.std.specs.Prelude.{slice_get}
use Rattle.std.proofs.lemmas.Bool.{cases_lt}
use Rattle.std.proofs.lemmas.Option.{same_Some, slice_get_within}
use Rattle.cb_validity.proofs.Uniques.{got, lists_from_gets}
use Rattle.cb_checker.specs.Radii.{AreSameAt, AreExtremes}

-- where two lists agree at all positions they are one
pub same_lists : (xs ys : List ℕ) (end : ℕ) → length xs ≤ end → length ys ≤ end → ((k : ℕ) → k < end → AreSameAt xs ys k) → ys ≡ xs
same_lists xs ys end a b same = lists_from_gets ys xs (λ k. elim (got ys k) [
  | inl (y, at) ↦
      let within = slice_get_within ys k y at in
      let (x, here, there) = same k (omega arith) in
      there ∙ sym here
  | inr none ↦ elim (got xs k) [
    | inl (x, at) ↦
        let within = slice_get_within xs k x at in
        let (z, here, there) = same k (omega arith) in
        absurd (let e : Some z ≡ None = sym there ∙ none in cc)
    | inr neither ↦ none ∙ sym neither
  ]
])

-- the least and the greatest of the first items
pub record AreExtremesTo (xs : List ℕ) (to least greatest : ℕ) : Type 0 where
  pub least_is : (i : ℕ) × (slice_get xs i ≡ Some least)
  pub greatest_is : (i : ℕ) × (slice_get xs i ≡ Some greatest)
  pub between : (i x : ℕ) → i < to → slice_get xs i ≡ Some x → (least ≤ x) × (x ≤ greatest)

pub first_extremes : (xs : List ℕ) (a b : ℕ) → slice_get xs 0 ≡ Some a → slice_get xs 0 ≡ Some b → AreExtremesTo xs 1 a b
first_extremes xs a b at_a at_b = record {
  least_is = (0, at_a);
  greatest_is = (0, at_b);
  between = λ i x low at.
      let zero : i ≡ 0 = omega arith in
      let here = subst (λ k. slice_get xs k ≡ Some x) zero at in
      let e = same_Some x a (sym here ∙ at_a) in
      let f = same_Some x b (sym here ∙ at_b) in
      (omega arith, omega arith);
}

pub more_extremes : (xs : List ℕ) (to least greatest x : ℕ) → AreExtremesTo xs to least greatest → slice_get xs to ≡ Some x
    → AreExtremesTo xs (to + 1) (min least x) (max greatest x)
more_extremes xs to least greatest x was at = record {
  least_is = elim (cases_lt x least) [
    | inl less ↦ let e : x ≡ min least x = omega arith in (to, subst (λ m. slice_get xs to ≡ Some m) e at)
    | inr more ↦ let (i, is) = was.least_is in let e : least ≡ min least x = omega arith in (i, subst (λ m. slice_get xs i ≡ Some m) e is)
  ];
  greatest_is = elim (cases_lt greatest x) [
    | inl more ↦ let e : x ≡ max greatest x = omega arith in (to, subst (λ m. slice_get xs to ≡ Some m) e at)
    | inr less ↦ let (i, is) = was.greatest_is in let e : greatest ≡ max greatest x = omega arith in (i, subst (λ m. slice_get xs i ≡ Some m) e is)
  ];
  between = λ i y low there. elim (cases_lt i to) [
    | inl before ↦ let (a, b) = was.between i y before there in (omega arith, omega arith)
    | inr late ↦
        let here : to ≡ i = omega arith in
        let e = same_Some y x (sym there ∙ sym (ap (slice_get xs) here) ∙ at) in
        (omega arith, omega arith)
  ];
}

pub all_extremes : (xs : List ℕ) (to least greatest : ℕ) → length xs ≤ to → AreExtremesTo xs to least greatest → AreExtremes xs least greatest
all_extremes xs to least greatest end was = record {
  least_is = was.least_is;
  greatest_is = was.greatest_is;
  between = λ i x at. let within = slice_get_within xs i x at in was.between i x (omega arith) at;
}

-- The least and the greatest of radii, radius by radius.
use Rattle.std.proofs.Common.{◌≡◌, ℕ, ◌<◌, ◌≤◌, ◌+◌, min, max, List, length, Bool, refl, sym, ap, subst, ◌∙◌, inl, inr, arith}
use Rattle.std.proofs.lemmas.Bool.{cases_lt}
use Rattle.cb_model.specs.declared.wish.Wish.TheVariants.{Cap}
use Rattle.cb_coding.specs.Radii.{AreRadii, radius_at}
use Rattle.cb_coding.specs.Used.{IsRadius, AreLeastAndGreatest}
use Rattle.cb_coding.proofs.UsedLaws.{radius_is_one}
use Rattle.cb_session.specs.Extremes.{AreExtremeRadii}

-- both are among the radii, and each of the first n is between them
pub record AreExtremesUpTo (radii : List ℕ) (n least greatest : ℕ) : Type 0 where
  pub least_is : (i : ℕ) × (i < length radii) × (radius_at radii i ≡ least)
  pub greatest_is : (i : ℕ) × (i < length radii) × (radius_at radii i ≡ greatest)
  pub between : (i : ℕ) → i < n → (least ≤ radius_at radii i) × (radius_at radii i ≤ greatest)

module _ (radii : List ℕ) where
  pub first_extremes : (r : ℕ) → 0 < length radii → radius_at radii 0 ≡ r → AreExtremesUpTo radii 0 r r
  first_extremes r some is = record {
    least_is = (0, some, is);
    greatest_is = (0, some, is);
    between = λ i lt. absurd (omega arith);
  }

  -- one radius more
  pub more_extremes : (n least greatest r : ℕ) → n < length radii → radius_at radii n ≡ r → AreExtremesUpTo radii n least greatest
      → AreExtremesUpTo radii (n + 1) (min least r) (max greatest r)
  more_extremes n least greatest r lt is so_far = record {
    least_is = elim (cases_lt r least) [
      | inl less ↦ (n, lt, let m : min least r ≡ r = omega arith in is ∙ sym m)
      | inr more ↦ let m : min least r ≡ least = omega arith in (so_far.least_is.0, so_far.least_is.1, so_far.least_is.2 ∙ sym m)
    ];
    greatest_is = elim (cases_lt greatest r) [
      | inl more ↦ (n, lt, let m : max greatest r ≡ r = omega arith in is ∙ sym m)
      | inr less ↦ let m : max greatest r ≡ greatest = omega arith in (so_far.greatest_is.0, so_far.greatest_is.1, so_far.greatest_is.2 ∙ sym m)
    ];
    between = λ i below. elim (cases_lt i n) [
      | inl before ↦ let both = so_far.between i before in (omega (arith, both.0), omega (arith, both.1))
      | inr after ↦
          let e : i ≡ n = omega arith in
          let own : radius_at radii i ≡ r = subst (λ (m : ℕ). radius_at radii m ≡ r) (sym e) is in
          (omega arith, omega arith)
    ];
  }

  -- the same by the radius as a loop over a list of them sees it
  pub next_extremes : (items : List ℕ) (n least greatest low high : ℕ) → items ≡ radii → n < length items → low ≡ min least (radius_at items n)
      → high ≡ max greatest (radius_at items n) → AreExtremesUpTo radii n least greatest → AreExtremesUpTo radii (n + 1) low high
  next_extremes items n least greatest low high same lt low_is high_is so_far =
      let within : n < length radii = subst (λ (xs : List ℕ). n < length xs) same lt in
      let l : low ≡ min least (radius_at radii n) = low_is ∙ ap (λ (xs : List ℕ). min least (radius_at xs n)) same in
      let h : high ≡ max greatest (radius_at radii n) = high_is ∙ ap (λ (xs : List ℕ). max greatest (radius_at xs n)) same in
      subst (λ (m : ℕ). AreExtremesUpTo radii (n + 1) m high) (sym l) (subst (λ (m : ℕ). AreExtremesUpTo radii (n + 1) (min least (radius_at radii n)) m) (sym h)
      (more_extremes n least greatest (radius_at radii n) within refl so_far))

-- they are the least and the greatest radius of the codes that have these radii
pub extremes_are : (width : ℕ) (codes : List (List Bool)) (cap : ℕ) (radii : List ℕ) (least greatest : ℕ) → AreRadii width codes cap radii
    → AreExtremeRadii radii least greatest → AreLeastAndGreatest width codes (Cap cap) least greatest
extremes_are width codes cap radii least greatest are is = record {
  least_is = of least is.least_is;
  greatest_is = of greatest is.greatest_is;
  between = λ i r lt own.
      let both = is.between i (let all = are.all in omega arith) in
      let same = radius_is_one width codes (Cap cap) i r (radius_at radii i) lt own (are.each i lt) in
      (omega (arith, both.0, same), omega (arith, both.1, same));
}
  where
    of : (r : ℕ) → (i : ℕ) × (i < length radii) × (radius_at radii i ≡ r) → (i : ℕ) × (i < length codes) × IsRadius width codes (Cap cap) i r
    of r (i, lt, e) =
        let within : i < length codes = let all = are.all in omega arith in
        (i, within, subst (λ (s : ℕ). IsRadius width codes (Cap cap) i s) e (are.each i within))

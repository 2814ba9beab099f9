-- Each code has a radius under a cap, and of all radii one is the least and one the greatest.
use Rattle.std.proofs.Common.{◌≡◌, ◌≢◌, ◌⊎◌, ◌<◌, ◌≤◌, ℕ, zero, suc, List, length, Bool, refl, sym, subst, ◌∙◌, inl, inr, arith}
use Rattle.std.proofs.lemmas.Bool.{cases_eq, cases_lt}
use Rattle.cb_model.specs.declared.wish.Wish.TheVariants.{Cap}
use Rattle.cb_coding.specs.Answers.{radius}
use Rattle.cb_coding.specs.Needs.{capped_need}
use Rattle.cb_coding.specs.Radii.{IsNearestNeed}
use Rattle.cb_coding.specs.Used.{IsRadius, AreLeastAndGreatest}
use Rattle.cb_coding.proofs.UsedLaws.{radius_is_one}

-- of the numbers below n other than i one has the least f
record IsLeastOther (f : ℕ → ℕ) (i n j : ℕ) : Type 0 where
  within : j < n
  other : j ≢ i
  least : (k : ℕ) → k < n → k ≢ i → f j ≤ f k

-- one does, or there is none other
least_other : (f : ℕ → ℕ) (i n : ℕ) → ((k : ℕ) → k < n → k ≡ i) ⊎ ((j : ℕ) × IsLeastOther f i n j)
least_other f i zero = inl (λ k lt. absurd (omega arith))
least_other f i (suc n) = with_last (cases_eq n i) (least_other f i n)
  where
    -- a number below n + 1 is n, or is below n
    last : (k : ℕ) → k < suc n → (k ≡ n) ⊎ (k < n)
    last k lt = elim (cases_lt k n) [
      | inl below ↦ inr below
      | inr above ↦ inl (omega arith)
    ]

    with_last : ((n ≡ i) ⊎ (n ≢ i)) → (((k : ℕ) → k < n → k ≡ i) ⊎ ((j : ℕ) × IsLeastOther f i n j))
        → ((k : ℕ) → k < suc n → k ≡ i) ⊎ ((j : ℕ) × IsLeastOther f i (suc n) j)
    with_last (inl own) (inl all) = inl (λ k lt. elim (last k lt) [
      | inl e ↦ e ∙ own
      | inr below ↦ all k below
    ])
    with_last (inl own) (inr (j, is)) = inr (
      j,
      record {
        within = let lt = is.within in omega arith;
        other = is.other;
        least = λ k lt other. elim (last k lt) [
          | inl e ↦ absurd (other (e ∙ own))
          | inr below ↦ is.least k below other
        ];
      },
    )
    with_last (inr other) (inl all) = inr (
      n,
      record {
        within = omega arith;
        other = other;
        least = λ k lt other'. elim (last k lt) [
          | inl e ↦ subst (λ (m : ℕ). f n ≤ f m) (sym e) (omega arith)
          | inr below ↦ absurd (other' (all k below))
        ];
      },
    )
    with_last (inr other) (inr (j, is)) = elim (cases_lt (f n) (f j)) [
      | inl less ↦ inr (
        n,
        record {
          within = omega arith;
          other = other;
          least = λ k lt other'. elim (last k lt) [
            | inl e ↦ subst (λ (m : ℕ). f n ≤ f m) (sym e) (omega arith)
            | inr below ↦ let far = is.least k below other' in omega arith
          ];
        },
      )
      | inr more ↦ inr (
        j,
        record {
          within = let lt = is.within in omega arith;
          other = is.other;
          least = λ k lt other'. elim (last k lt) [
            | inl e ↦ subst (λ (m : ℕ). f j ≤ f m) (sym e) (omega arith)
            | inr below ↦ is.least k below other'
          ];
        },
      )
    ]

module _ (width : ℕ) (codes : List (List Bool)) (cap : ℕ) where
  pub nearest_need : (i : ℕ) → i < length codes → (d : ℕ) × IsNearestNeed width codes cap i d
  nearest_need i lt = elim (cases_lt (length codes) 2) [
    | inl few ↦ (
      cap,
      record {
        least = λ j other. absurd (other.1 (let below = other.0 in omega arith));
        attained = inl (few, refl);
      },
    )
    | inr more ↦ elim (least_other (capped_need width codes cap i) i (length codes)) [
      | inl all ↦ let first = all 0 (omega arith) in let second = all 1 (omega arith) in absurd (omega arith)
      | inr (j, is) ↦ (
        capped_need width codes cap i j,
        record {
          least = λ k other. is.least k other.0 other.1;
          attained = inr (j, (is.within, is.other), refl);
        },
      )
    ]
  ]

  has_radius : (i : ℕ) → i < length codes → (r : ℕ) × IsRadius width codes (Cap cap) i r
  has_radius i lt = let (d, is) = nearest_need i lt in (radius d, (d, is, refl))

  -- the least and the greatest radius of the first n codes
  record AreSoFar (n least greatest : ℕ) : Type 0 where
    least_is : (i : ℕ) × (i < n) × IsRadius width codes (Cap cap) i least
    greatest_is : (i : ℕ) × (i < n) × IsRadius width codes (Cap cap) i greatest
    between : (i r : ℕ) → i < n → IsRadius width codes (Cap cap) i r → (least ≤ r) × (r ≤ greatest)

  -- one code more
  one_more : (n least greatest r : ℕ) → n < length codes → IsRadius width codes (Cap cap) n r → AreSoFar n least greatest
      → (low : ℕ) × (high : ℕ) × AreSoFar (suc n) low high
  one_more n least greatest r lt is far = with_order (cases_lt r least) (cases_lt greatest r)
    where
      -- of a number below n + 1, where the last one is known
      between_all : (low high : ℕ) → low ≤ least → greatest ≤ high → low ≤ r → r ≤ high → (i s : ℕ) → i < suc n
          → IsRadius width codes (Cap cap) i s → (low ≤ s) × (s ≤ high)
      between_all low high a b c d i s within own = elim (cases_lt i n) [
        | inl below ↦ let both = far.between i s below own in (omega (arith, both.0), omega (arith, both.1))
        | inr above ↦
            let e : i ≡ n = omega arith in
            let same = radius_is_one width codes (Cap cap) n s r lt (subst (λ (m : ℕ). IsRadius width codes (Cap cap) m s) e own) is in
            (omega arith, omega arith)
      ]

      earlier : (s : ℕ) → (i : ℕ) × (i < n) × IsRadius width codes (Cap cap) i s → (i : ℕ) × (i < suc n) × IsRadius width codes (Cap cap) i s
      earlier s (i, below, own) = (i, omega arith, own)

      with_order : ((r < least) ⊎ (least ≤ r)) → ((greatest < r) ⊎ (r ≤ greatest)) → (low : ℕ) × (high : ℕ) × AreSoFar (suc n) low high
      with_order (inl low) (inl high) = (
        r,
        r,
        record {
          least_is = (n, omega arith, is);
          greatest_is = (n, omega arith, is);
          between = between_all r r (omega arith) (omega arith) (omega arith) (omega arith);
        },
      )
      with_order (inl low) (inr high) = (
        r,
        greatest,
        record {
          least_is = (n, omega arith, is);
          greatest_is = earlier greatest far.greatest_is;
          between = between_all r greatest (omega arith) (omega arith) (omega arith) high;
        },
      )
      with_order (inr low) (inl high) = (
        least,
        r,
        record {
          least_is = earlier least far.least_is;
          greatest_is = (n, omega arith, is);
          between = between_all least r (omega arith) (omega arith) low (omega arith);
        },
      )
      with_order (inr low) (inr high) = (
        least,
        greatest,
        record {
          least_is = earlier least far.least_is;
          greatest_is = earlier greatest far.greatest_is;
          between = between_all least greatest (omega arith) (omega arith) low high;
        },
      )

  so_far : (n : ℕ) → suc n ≤ length codes → (least : ℕ) × (greatest : ℕ) × AreSoFar (suc n) least greatest
  so_far zero le =
      let (r, is) = has_radius 0 (omega arith) in (
        r,
        r,
        record {
          least_is = (0, omega arith, is);
          greatest_is = (0, omega arith, is);
          between = λ i s lt own.
              let e : i ≡ 0 = omega arith in
              let same = radius_is_one width codes (Cap cap) 0 s r (omega arith) (subst (λ (m : ℕ). IsRadius width codes (Cap cap) m s) e own) is in
              (omega arith, omega arith);
        },
      )
  so_far (suc n) le =
      let (least, greatest, far) = so_far n (omega arith) in
      let (r, is) = has_radius (suc n) (omega arith) in
      one_more (suc n) least greatest r (omega arith) is far

  pub least_and_greatest_exist : 0 < length codes → (least : ℕ) × (greatest : ℕ) × AreLeastAndGreatest width codes (Cap cap) least greatest
  least_and_greatest_exist some = of_length (length codes) (refl) some
    where
      of_length : (n : ℕ) → n ≡ length codes → 0 < n → (least : ℕ) × (greatest : ℕ) × AreLeastAndGreatest width codes (Cap cap) least greatest
      of_length zero e none = absurd (omega arith)
      of_length (suc n) e more =
          let (least, greatest, far) = so_far n (omega arith) in
          let whole : AreSoFar (length codes) least greatest = subst (λ (m : ℕ). AreSoFar m least greatest) e far in
          (least, greatest, record { least_is = whole.least_is; greatest_is = whole.greatest_is; between = whole.between })

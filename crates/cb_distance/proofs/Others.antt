-- The nearest of the other codes, and those that needn't be compared.
use Rattle.std.proofs.Common.{◌≡◌, ◌≢◌, ◌⊎◌, ℕ, refl, ◌+◌, ◌<◌, ◌≤◌, List, [], ◌∷◌, ◌++◌, length, get_or, Bool, true, inl, inr, sym, ap, subst, ◌∙◌, arith}
use Rattle.std.specs.List.{Contains}
use Rattle.std.proofs.Math.Seq.{get_or-append_seam}
use Rattle.std.proofs.lemmas.Bool.{cases_lt, cases_eq, cases_Bool}
use Rattle.std.proofs.lemmas.List.{length-append, get_or_append_left, get_or_default}
use Rattle.cb_coding.specs.Distance.{bit, all_columns, code_at, apart}
use Rattle.cb_coding.specs.Needs.{capped_need}
use Rattle.cb_coding.specs.Answers.{radius}
use Rattle.cb_coding.specs.Radii.{IsOther, IsNearestNeed, AreRadii, radius_at}
use Rattle.cb_coding.proofs.Distances.{distance_more}
use Rattle.cb_codes.specs.Codes.{Coded}
use Rattle.cb_codes.specs.Holders.{holders_of}
use Rattle.cb_distance.specs.Close.{far}
use Rattle.cb_distance.specs.Nearest.{IsCloserOf, IsCapOrNeed}
use Rattle.cb_distance.proofs.After.{further, one_alone, holders_have}

module _ (codes : Coded) (cap i : ℕ) where
  abbrev need : ℕ → ℕ
  need j = capped_need codes.width codes.rows cap i j

  pub cap_reached : IsCapOrNeed codes cap i cap
  cap_reached = record { low = omega arith; attained = inl refl }

  pub closer_reached : (k best closer : ℕ) → k < length codes.rows → IsCloserOf codes i k best closer → IsCapOrNeed codes cap i best → IsCapOrNeed codes cap i closer
  closer_reached k best closer within is was = elim is [
    | inl (same, e) ↦ subst (IsCapOrNeed codes cap i) (sym e) was
    | inr (other, e) ↦ record {
      low = let low = was.low in omega arith;
      attained = elim (cases_lt (far codes i k) best) [
        | inl less ↦ let low = was.low in inr (k, (within, other), omega arith)
        | inr no_less ↦ let stays : closer ≡ best = omega arith in elim was.attained [
          | inl at_cap ↦ inl (stays ∙ at_cap)
          | inr (j, at, is_need) ↦ inr (j, at, stays ∙ is_need)
        ]
      ];
    }
  ]

  -- if all others are at least as far, it is the nearest
  pub is_nearest : (best : ℕ) → i < length codes.rows → ((j : ℕ) → IsOther codes.rows i j → best ≤ far codes i j) → IsCapOrNeed codes cap i best
      → IsNearestNeed codes.width codes.rows cap i best
  is_nearest best within all was =
      let least : (j : ℕ) → IsOther codes.rows i j → best ≤ need j = λ j other. let far = all j other in let low = was.low in omega arith in
      record {
        least = least;
        attained = elim was.attained [
          | inl at_cap ↦ elim (cases_lt (length codes.rows) 2) [
            | inl few ↦ inl (few, at_cap)
            | inr many ↦ inr (some_other (omega arith) least at_cap)
          ]
          | inr at ↦ inr at
        ];
      }
    where
      some_other : 1 < length codes.rows → ((j : ℕ) → IsOther codes.rows i j → best ≤ need j) → best ≡ cap
          → (j : ℕ) × IsOther codes.rows i j × (best ≡ need j)
      some_other many least at_cap = elim (cases_eq i 0) [
        | inl e ↦ (1, (many, λ f. absurd (omega arith)), (let far = least 1 (many, λ f. absurd (omega arith)) in omega arith))
        | inr other ↦
            let zero_other : IsOther codes.rows i 0 = (omega arith, λ f. other (sym f)) in
            (0, zero_other, (let far = least 0 zero_other in omega arith))
      ]

module _ (codes : Coded) (i : ℕ) where
  pub closer_low : (k best closer : ℕ) → IsCloserOf codes i k best closer → closer ≤ best
  closer_low k best closer is = elim is [
    | inl (same, e) ↦ omega arith
    | inr (other, e) ↦ omega arith
  ]

  pub closer_far : (k best closer : ℕ) → IsCloserOf codes i k best closer → k ≢ i → closer ≤ far codes i k
  closer_far k best closer is differs = elim is [
    | inl (same, e) ↦ absurd (differs same)
    | inr (other, e) ↦ omega arith
  ]

  -- the first others are at least as far
  abbrev pub AreFarTo : ℕ → ℕ → Type 0
  AreFarTo best to = (j : ℕ) → j < to → j ≢ i → best ≤ far codes i j

  pub one_farther : (k best closer : ℕ) → AreFarTo best k → IsCloserOf codes i k best closer → AreFarTo closer (k + 1)
  one_farther k best closer was is = λ j low other. elim (cases_eq k j) [
    | inl same ↦ subst (λ m. closer ≤ far codes i m) same (closer_far k best closer is (λ e. other (sym same ∙ e)))
    | inr before ↦ let least = was j (omega arith) other in let less = closer_low k best closer is in omega arith
  ]

  -- of these codes the first are at least as far
  abbrev pub LooksTo : List ℕ → ℕ → ℕ → Type 0
  LooksTo items n best = (k d : ℕ) → k < n → get_or items k d ≢ i → best ≤ far codes i (get_or items k d)

  pub looked_more : (items : List ℕ) (n best closer d : ℕ) → n < length items → LooksTo items n best → IsCloserOf codes i (get_or items n d) best closer
      → LooksTo items (n + 1) closer
  looked_more items n best closer d low was is = λ k e lt other. elim (cases_lt k n) [
    | inl before ↦ let least = was k e before other in let less = closer_low (get_or items n d) best closer is in omega arith
    | inr here ↦
        let same : n ≡ k = omega arith in
        let at : get_or items n d ≡ get_or items k e = get_or_default items n d e low ∙ ap (λ m. get_or items m e) same in
        subst (λ m. closer ≤ far codes i m) at (closer_far (get_or items n d) best closer is (λ f. other (sym at ∙ f)))
  ]

  -- each other code is at least as far, or differs in that number of the columns below one
  abbrev pub AreFarOrApart : ℕ → ℕ → ℕ → Type 0
  AreFarOrApart below count best = (j : ℕ) → IsOther codes.rows i j → (best ≤ far codes i j) ⊎ (count ≤ apart (all_columns below) codes.rows i j)

  module _ (from column looked best : ℕ) (on : from ≤ column) (old : AreFarOrApart from looked best) where
    -- a column that is ignored
    pub other_passed : AreFarOrApart (column + 1) looked best
    other_passed = λ j other. elim (old j other) [
      | inl is ↦ inl is
      | inr many ↦ inr (let more = further (code_at codes.rows i) (code_at codes.rows j) from (column + 1) (omega arith) in omega arith)
    ]

    -- a column of the code, all others with which were looked at
    pub other_looked : (places : List ℕ) (new : ℕ) → bit (code_at codes.rows i) column ≡ true → places ≡ holders_of codes.rows column → new ≤ best
        → ((j : ℕ) → Contains places j → j ≢ i → new ≤ far codes i j) → AreFarOrApart (column + 1) (looked + 1) new
    other_looked places new has are low looks = λ j other. elim (old j other) [
      | inl is ↦ inl (omega arith)
      | inr many ↦ elim (cases_Bool (bit (code_at codes.rows j) column)) [
        | inl both ↦ inl (looks j (holders_have codes.rows column places are j other.0 both) other.1)
        | inr alone ↦ inr (
            let more = distance_more column (code_at codes.rows i) (code_at codes.rows j) in
            let here = one_alone (bit (code_at codes.rows i) column) (bit (code_at codes.rows j) column) has alone in
            let rest = further (code_at codes.rows i) (code_at codes.rows j) from column on in
            omega arith)
      ]
    ]

  -- enough were looked at
  pub enough_apart : (from looked best : ℕ) → from ≤ codes.width → best ≤ looked → AreFarOrApart from looked best
      → (j : ℕ) → IsOther codes.rows i j → best ≤ far codes i j
  enough_apart from looked best within enough old = λ j other. elim (old j other) [
    | inl is ↦ is
    | inr many ↦ let more = further (code_at codes.rows i) (code_at codes.rows j) from codes.width within in omega arith
  ]

-- the radii of the first n codes
pub record AreRadiiOf (width : ℕ) (codes : List (List Bool)) (cap n : ℕ) (radii : List ℕ) : Type 0 where
  pub all : length radii ≡ n
  pub each : (i : ℕ) → i < n → (d : ℕ) × IsNearestNeed width codes cap i d × (radius_at radii i ≡ radius d)

pub no_radii : (width : ℕ) (codes : List (List Bool)) (cap : ℕ) (radii : List ℕ) → radii ≡ [] → AreRadiiOf width codes cap 0 radii
no_radii width codes cap radii is = record { all = ap length is; each = λ i lt. absurd (omega arith) }

pub one_radius_more : (width : ℕ) (codes : List (List Bool)) (cap n : ℕ) (old new : List ℕ) (d r : ℕ) → AreRadiiOf width codes cap n old
    → IsNearestNeed width codes cap n d → r ≡ radius d → new ≡ old ++ r ∷ [] → AreRadiiOf width codes cap (n + 1) new
one_radius_more width codes cap n old new d r was near is pushed = record {
  all = ap length pushed ∙ (length-append old (r ∷ []) ∙ (let all = was.all in omega arith));
  each = λ i lt. elim (cases_lt i n) [
    | inl before ↦
        let (e, near_e, at) = was.each i before in
        (e, near_e, ap (λ rs. radius_at rs i) pushed ∙ (get_or_append_left old (r ∷ []) 0 i (let all = was.all in omega arith) ∙ at))
    | inr last ↦
        let here : n ≡ i = omega arith in
        subst (λ k. (e : ℕ) × IsNearestNeed width codes cap k e × (radius_at new k ≡ radius e)) here
        (d, near, ap (λ rs. radius_at rs n) pushed ∙ (ap (λ k. radius_at (old ++ r ∷ []) k) (sym was.all) ∙ (get_or-append_seam old r [] 0 ∙ is)))
  ];
}

pub all_radii : (width : ℕ) (codes : List (List Bool)) (cap n : ℕ) (radii : List ℕ) → n ≡ length codes → AreRadiiOf width codes cap n radii
    → AreRadii width codes cap radii
all_radii width codes cap n radii end was = record { all = was.all ∙ end; each = λ i lt. was.each i (omega arith) }

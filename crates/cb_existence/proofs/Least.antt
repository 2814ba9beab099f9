-- Of listed items that can be decided, the one of least number that holds, or none holds.
use Rattle.std.proofs.Common.{◌≡◌, ◌⊎◌, ◌<◌, ◌≤◌, ℕ, List, [], ◌∷◌, sym, ap, subst, inl, inr, arith}
use Rattle.std.specs.List.{Contains}
use Rattle.std.proofs.lemmas.Bool.{cases_lt}
use Rattle.cb_model.proofs.Rising.{contains_cases, nothing_in_empty}
use Rattle.cb_network.proofs.Decided.{Decision}

module _ {X : Type 0} (number : X → ℕ) (P : X → Type 0) where
  pub record IsLeast (xs : List X) (x : X) : Type 0 where
    pub holds : P x
    pub least : (y : X) → Contains xs y → number y < number x → ¬ P y

  abbrev pub NoneHolds : List X → Type 0
  NoneHolds xs = (x : X) → Contains xs x → ¬ P x

  first_alone : (x : X) (xs : List X) → P x → NoneHolds xs → IsLeast (x ∷ xs) x
  first_alone x xs holds none = record {
    holds = holds;
    least = λ y has less. elim (contains_cases x xs y has) [
      | inl same ↦ let e : number x ≡ number y = ap number same in absurd (omega arith)
      | inr later ↦ none y later
    ];
  }

  later_alone : (x z : X) (xs : List X) → (number x < number z → ¬ P x) → IsLeast xs z → IsLeast (x ∷ xs) z
  later_alone x z xs unless is = record {
    holds = is.holds;
    least = λ y has less. elim (contains_cases x xs y has) [
      | inl same ↦ subst (λ v. ¬ P v) same (unless (subst (λ v. number v < number z) (sym same) less))
      | inr later ↦ is.least y later less
    ];
  }

  lesser_first : (x z : X) (xs : List X) → number x ≤ number z → P x → IsLeast xs z → IsLeast (x ∷ xs) x
  lesser_first x z xs le holds is = record {
    holds = holds;
    least = λ y has less. elim (contains_cases x xs y has) [
      | inl same ↦ let e : number x ≡ number y = ap number same in absurd (omega arith)
      | inr later ↦ is.least y later (omega arith)
    ];
  }

  pub least_of : ((x : X) → Decision (P x)) → (xs : List X) → ((x : X) × IsLeast xs x) ⊎ NoneHolds xs
  least_of decide [] = inr (λ x has. absurd (nothing_in_empty x has))
  least_of decide (x ∷ xs) = elim (decide x) [
    | inl holds ↦ elim (least_of decide xs) [
      | inl (z, is) ↦ elim (cases_lt (number z) (number x)) [
        | inl less ↦ inl (z, later_alone x z xs (λ more. absurd (omega arith)) is)
        | inr more ↦ inl (x, lesser_first x z xs more holds is)
      ]
      | inr none ↦ inl (x, first_alone x xs holds none)
    ]
    | inr not ↦ elim (least_of decide xs) [
      | inl (z, is) ↦ inl (z, later_alone x z xs (λ less. not) is)
      | inr none ↦ inr (λ y has. elim (contains_cases x xs y has) [
        | inl same ↦ subst (λ v. ¬ P v) same not
        | inr later ↦ none y later
      ])
    ]
  ]

-- A change is met over links that stand before it.
use Rattle.std.proofs.Common.{◌≡◌, ◌⊎◌, ◌↔◌, ℕ, List, [], ◌∷◌, Bool, true, false, refl, inl, inr}
use Rattle.std.specs.FinSet as set
use Rattle.cb_model.specs.declared.id.RelId.{RelId}
use Rattle.cb_model.specs.declared.tables.Place.{Place}
use Rattle.cb_network.specs.Topology.{Topology, HasLink}
use Rattle.cb_network.specs.Edits.{link_of}
use Rattle.cb_network.proofs.Runs.{other_ahead, ahead_or}
use Rattle.cb_change.specs.Touched.{IsChanged, HasEither, MeetsChange}
use Rattle.cb_change.specs.Before.{LeadsToChange}

pub yes_or_no : (b : Bool) → (b ≡ true) ⊎ (¬ (b ≡ true))
yes_or_no true = inl refl
yes_or_no false = inr (λ e. cc)

module _ (t u : Topology) (moves : List ℕ → RelId → List ℕ → Type 0) (same : (a : List ℕ) (r : RelId) (b : List ℕ) → IsChanged t u a r b ↔ moves a r b) where
  -- a link of either topology is one of the topology before the edit, or one that moves
  stands_or_moves : (r : RelId) (a b : List ℕ) → HasEither t u a r b → HasLink t a r b ⊎ moves a r b
  stands_or_moves r a b (inl has) = inl has
  stands_or_moves r a b (inr later) = elim (yes_or_no (set.contains t.links (link_of a r b))) [
    | inl has ↦ inl has
    | inr new ↦ inr ((same a r b).0 (inr (later, new)))
  ]

  pub comes : (path : List Place) (a : List ℕ) → MeetsChange t u a path → LeadsToChange t moves a path
  comes [] a none = none
  comes (place ∷ rest) a (last, ahead, next, meets) =
      elim (ahead_or (λ x y. HasEither t u x place.rel y) (λ x y. HasLink t x place.rel y) (λ x y. moves x place.rel y) (stands_or_moves place.rel) place.plus a last ahead) [
        | inr earlier ↦ (earlier.0, earlier.1, earlier.2, inl earlier.3)
        | inl stands ↦ (
          last,
          stands,
          next,
          elim meets [
            | inl changed ↦ inl ((same last place.rel next).0 changed)
            | inr further ↦ elim (stands_or_moves place.rel last next further.0) [
              | inl has ↦ inr (has, comes rest next further.1)
              | inr moved ↦ inl moved
            ]
          ],
        )
      ]

  pub meets : (path : List Place) (a : List ℕ) → LeadsToChange t moves a path → MeetsChange t u a path
  meets [] a none = none
  meets (place ∷ rest) a (last, ahead, next, comes) = (
    last,
    other_ahead (λ x y. HasLink t x place.rel y) (λ x y. HasEither t u x place.rel y) (λ x y has. inl has) place.plus a last ahead,
    next,
    elim comes [
      | inl moved ↦ inl ((same last place.rel next).1 moved)
      | inr further ↦ inr (inl further.0, meets rest next further.1)
    ],
  )

-- A list without repeats has none in another order.
use Rattle.std.proofs.Common.{◌≡◌, ◌≢◌, ◌⊎◌, ℕ, ◌<◌, List, length, slice_index_or, sym, subst, ◌∙◌, inl, inr, refl, arith}
use Rattle.std.specs.List.{AllPairs, swap}
use Rattle.std.specs.List.Sorted.{IsPermutation}
use Rattle.std.proofs.lemmas.Bool.{cases_eq, cases_lt}
use Rattle.std.proofs.lemmas.List.Edits.{swapped_from_swap, length-swap}
use Rattle.std.proofs.lemmas.List.Sorted.{IsPermutation-keeps}

-- where two places change items, what stands at this place stood at that one
abbrev CameFrom : ℕ → ℕ → ℕ → ℕ → Type 0
CameFrom i j place from = ((place ≡ i) × (from ≡ j)) ⊎ (((place ≡ j) × (from ≡ i)) ⊎ ((place ≢ i) × (place ≢ j) × (from ≡ place)))

from_apart : (i j a b from_a from_b : ℕ) → CameFrom i j a from_a → CameFrom i j b from_b → a < b → from_a ≢ from_b
from_apart i j a b from_a from_b (inl (p, q)) (inl (r, s)) lt same = omega arith
from_apart i j a b from_a from_b (inl (p, q)) (inr (inl (r, s))) lt same = omega arith
from_apart i j a b from_a from_b (inl (p, q)) (inr (inr (r, s, t))) lt same = s (sym t ∙ sym same ∙ q)
from_apart i j a b from_a from_b (inr (inl (p, q))) (inl (r, s)) lt same = omega arith
from_apart i j a b from_a from_b (inr (inl (p, q))) (inr (inl (r, s))) lt same = omega arith
from_apart i j a b from_a from_b (inr (inl (p, q))) (inr (inr (r, s, t))) lt same = r (sym t ∙ sym same ∙ q)
from_apart i j a b from_a from_b (inr (inr (p, q, u))) (inl (r, s)) lt same = q (sym u ∙ same ∙ s)
from_apart i j a b from_a from_b (inr (inr (p, q, u))) (inr (inl (r, s))) lt same = p (sym u ∙ same ∙ s)
from_apart i j a b from_a from_b (inr (inr (p, q, u))) (inr (inr (r, s, t))) lt same = omega arith

module _ {X : Type 0} (xs : List X) (i j : ℕ) (low_i : i < length xs) (low_j : j < length xs) (once : AllPairs (λ a b. a ≢ b) xs) where
  -- where an item of the swapped list stood
  stood : (d : X) (place : ℕ) → place < length xs
      → (from : ℕ) × CameFrom i j place from × (from < length xs) × (slice_index_or (swap xs i j) place d ≡ slice_index_or xs from d)
  stood d place low =
      let swapped = swapped_from_swap xs (swap xs i j) i j d low_i low_j refl in
      elim (cases_eq place i) [
        | inl is_i ↦ (j, inl (is_i, refl), low_j, subst (λ k. slice_index_or (swap xs i j) k d ≡ slice_index_or xs j d) (sym is_i) swapped.0)
        | inr not_i ↦ elim (cases_eq place j) [
          | inl is_j ↦ (i, inr (inl (is_j, refl)), low_i, subst (λ k. slice_index_or (swap xs i j) k d ≡ slice_index_or xs i d) (sym is_j) swapped.1)
          | inr not_j ↦ (place, inr (inr (not_i, not_j, refl)), low, swapped.2 place not_i not_j)
        ]
      ]

  apart : (a b : ℕ) (d : X) → a ≢ b → a < length xs → b < length xs → slice_index_or xs a d ≢ slice_index_or xs b d
  apart a b d differ low_a low_b same = elim (cases_lt a b) [
    | inl lt ↦ once a b d lt low_b same
    | inr le ↦ once b a d (omega arith) low_a (sym same)
  ]

  once_swapped : AllPairs (λ a b. a ≢ b) (swap xs i j)
  once_swapped a b d lt low same =
      let long = length-swap xs i j in
      let first = stood d a (omega arith) in
      let second = stood d b (omega arith) in
      apart first.0 second.0 d (from_apart i j a b first.0 second.0 first.1 second.1 lt) first.2 second.2 (sym first.3 ∙ same ∙ second.3)

pub once_permuted : {X : Type 0} (xs ys : List X) → IsPermutation xs ys → AllPairs (λ a b. a ≢ b) xs → AllPairs (λ a b. a ≢ b) ys
once_permuted {X} xs ys permutation once =
    let P : List X → Type 0 = λ l. AllPairs (λ a b. a ≢ b) l in
    IsPermutation-keeps xs P once (λ l i j low_i low_j before. once_swapped l i j low_i low_j before) ys permutation

-- Lists whose items differ.
use Rattle.std.proofs.Common.{◌≡◌, ◌<◌, List, [], ◌∷◌, ◌++◌, length, get_or, refl, subst, ◌∙◌, arith}
use Rattle.std.specs.List.{AllPairs, Contains}
use Rattle.std.proofs.lemmas.List.{get_or_push, get_or_append_left, length_push}
use Rattle.std.proofs.lemmas.List.Elements.{Contains-get_or}
use Rattle.std.proofs.lemmas.List.Quantifiers.{all_pairs_push}

module _ {X : Type 0} (R : X → X → Type 0) where
  -- each earlier item stands so to the last
  pub pairs_last : (xs : List X) (y : X) → AllPairs R (xs ++ y ∷ []) → (x : X) → Contains xs x → R x y
  pairs_last xs y pairs x (k, lt, is) =
      let all : List X = xs ++ y ∷ [] in
      let end : length xs < length all = omega (arith, length_push xs y) in
      let h : R (get_or all k x) (get_or all (length xs) x) = pairs k (length xs) x lt end in
      let at : get_or all k x ≡ x = get_or_append_left xs (y ∷ []) x k lt ∙ is in
      let last : get_or all (length xs) x ≡ y = get_or_push xs y x (length xs) refl in
      subst (λ z. R x z) last (subst (λ z. R z (get_or all (length xs) x)) at h)

  pub pairs_prefix : (xs : List X) (y : X) → AllPairs R (xs ++ y ∷ []) → AllPairs R xs
  pairs_prefix xs y pairs i j d lt within =
      let all : List X = xs ++ y ∷ [] in
      let more : j < length all = omega (arith, length_push xs y) in
      let first : i < length xs = omega arith in
      let h : R (get_or all i d) (get_or all j d) = pairs i j d lt more in
      let a : get_or all i d ≡ get_or xs i d = get_or_append_left xs (y ∷ []) d i first in
      let b : get_or all j d ≡ get_or xs j d = get_or_append_left xs (y ∷ []) d j within in
      subst (λ z. R (get_or xs i d) z) b (subst (λ z. R z (get_or all j d)) a h)

  pub pairs_more : (xs : List X) (y : X) → AllPairs R xs → ((x : X) → Contains xs x → R x y) → AllPairs R (xs ++ y ∷ [])
  pairs_more xs y pairs last = all_pairs_push R xs y pairs (λ k d lt. last (get_or xs k d) (Contains-get_or xs k d lt))

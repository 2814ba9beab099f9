-- What is sorted by names that are all unlike rises by them.
use Rattle.std.proofs.Common.{◌≡◌, ◌≢◌, Bool, false, List, [], ◌∷◌, map, slice_index_or, refl, sym, ap, subst, ◌∙◌, inl, inr, arith}
use Rattle.std.specs.List.{AllPairs, IsDistinct}
use Rattle.std.specs.List.Sorted.{IsPermutation, IsSortedBy, IsSortedByClosure}
use Rattle.std.specs.Cmp.{IsTotalOrder, eq_by_cmp_equiv}
use Rattle.std.specs.FinSet.{IsAntisymmetric}
use Rattle.std.specs.Fn.{Called}
use Rattle.std.specs.Ordering.{is_lt, is_eq, eq_by_cmp, ordering_reverse}
use Rattle.std.specs.declared.cmp.Ordering.{Ordering}
use Rattle.std.specs.declared.cmp.Ordering.TheVariants.{Less, Equal, Greater}
use Rattle.std.proofs.lemmas.Bool.{cases_Bool, false≢true}
use Rattle.std.proofs.lemmas.Fn.{always_returns_same}
use Rattle.std.proofs.lemmas.List.{length-map, get_or-map}
use Rattle.std.proofs.lemmas.List.Sorted.{ranks_by, sorted_far}
use Rattle.std.proofs.lemmas.Map.Keys.{IsDistinct-from_apart, IsDistinct-IsPermutation, apart_from_distinct}
use Rattle.cb_model.specs.Order.{Rises}
use Rattle.cb_network.proofs.Sets.{tied}
use denote.Param.Members.{Mut}
use denote.Ref.{Bor}

-- of two that do not tie, what is not below the first is above it
above : (there back : Ordering) → back ≡ ordering_reverse there → is_lt back ≡ false → is_eq there ≡ false → there ≡ Less
above Less back turned late unlike = refl
above Equal back turned late unlike = absurd (false≢true (sym unlike))
above Greater back turned late unlike = absurd (false≢true (sym late ∙ ap is_lt turned))

module _ {X Y : Type 0} (called : X → Y) where
  -- a relation between the names of items is one between the items of the list of names
  pairs_called : (R : Y → Y → Type 0) (xs : List X) → AllPairs (λ a b. R (called a) (called b)) xs → AllPairs R (map called xs)
  pairs_called R [] all i j d lt within = absurd (omega arith)
  pairs_called R (x ∷ xs) all i j d lt within =
      let long = length-map (x ∷ xs) called in
      let early = get_or-map called (x ∷ xs) i x d (omega arith) in
      let late = get_or-map called (x ∷ xs) j x d (omega arith) in
      subst (λ a. R a (slice_index_or (map called (x ∷ xs)) j d)) (sym early) (subst (R (called (slice_index_or (x ∷ xs) i x))) (sym late) (all i j x lt (omega arith)))

  module _ {cmp : Y → Y → Ordering} (total : IsTotalOrder cmp) where
    -- a closure that compares the names sorts by them
    pub sorted_by : {F : Type 0} {g : Mut F (Bor X × (Bor X × Unit {0})) Ordering} {f : F} (xs : List X) → IsSortedByClosure g f xs
        → ((a : Bor X × (Bor X × Unit {0})) (r : Ordering) (f' : F) → Called g f a r f' → (r ≡ cmp (called a.0.now) (called a.1.0.now)) × (f' ≡ f))
        → IsSortedBy (λ a b. is_lt (cmp (called a) (called b))) xs
    sorted_by {g = g} {f = f} xs sorted answers =
        sorted (λ a b. is_lt (cmp (called a) (called b))) (ranks_by total called)
        (always_returns_same g (λ a r. is_lt r ≡ is_lt (cmp (called a.0.now) (called a.1.0.now))) f (λ a r f' k. let reported = answers a r f' k in (ap is_lt reported.0, reported.1)))

    module _ (exact : IsAntisymmetric cmp) (found xs : List X) (moved : IsPermutation found xs) (unlike : AllPairs (λ a b. called a ≢ called b) found) where
      abbrev tie : X → X → Bool
      tie a b = eq_by_cmp cmp (called a) (called b)

      not_tied : (a b : X) → called a ≢ called b → tie a b ≡ false
      not_tied a b differ = elim (cases_Bool (tie a b)) [ inl even ↦ absurd (differ (tied total exact (called a) (called b) even)) | inr apart ↦ apart ]

      -- names that are unlike do not tie, wherever their items are moved
      none_tie : IsDistinct tie xs
      none_tie = IsDistinct-IsPermutation tie (λ a b. (eq_by_cmp_equiv total).symm (called a) (called b)) found xs moved
          (IsDistinct-from_apart tie found (λ i j d lt within. not_tied (slice_index_or found i d) (slice_index_or found j d) (unlike i j d lt within)))

      pub rises_sorted : IsSortedBy (λ a b. is_lt (cmp (called a) (called b))) xs → Rises cmp (map called xs)
      rises_sorted sorted = pairs_called (λ a b. cmp a b ≡ Less) xs (λ i j d lt within.
          let a = called (slice_index_or xs i d) in
          let b = called (slice_index_or xs j d) in
          let late = sorted_far (λ a b. is_lt (cmp (called a) (called b))) (ranks_by total called) xs sorted i j d (omega arith) within in
          above (cmp a b) (cmp b a) (total.antisymm b a) late (apart_from_distinct tie xs i j d none_tie lt within))

-- Checks for the items of a list, one after another.
use Rattle.std.proofs.Common.{◌≡◌, ℕ, zero, suc, ◌+◌, ◌-◌, ◌<◌, ◌≤◌, List, [], ◌∷◌, length, get_or, map, refl, sym, ap, subst, ◌∙◌, Some, arith}
use Rattle.std.specs.Prelude.{Result, Ok, Err, slice_get}
use Rattle.std.specs.Result.{IsErrAnd}
use Rattle.std.specs.List.{All, flat_map, range_with_len}
use Rattle.std.proofs.lemmas.List.FromFn.{length-range_with_len, get_or-range_with_len}
use Rattle.std.proofs.lemmas.List.Elements.{All-nil}
use Rattle.std.proofs.lemmas.Option.{same_Some, slice_get_within, slice_get-get_or}
use Rattle.cb_network.specs.Topology.{Topology}
use Rattle.cb_cert.specs.declared.certificate.Certificate.{Certificate}
use Rattle.cb_validity.specs.declared.verdict.Rejected.{Rejected}
use Rattle.cb_validity.specs.Checks.{Check, Passes, ReportsCheck, FailsFirst, Judges, places}
use Rattle.cb_validity.proofs.Passing.{all_joined, range_of_all, places_of_checks}
use Rattle.cb_validity.proofs.Stages.{passed_go_on, failed_stop}

pub all_from : {X : Type 0} (P : X → Type 0) (xs : List X) → ((i : ℕ) (x : X) → slice_get xs i ≡ Some x → P x) → All P xs
all_from P xs each = λ i d low. each i (get_or xs i d) (slice_get-get_or xs i d low)

-- an error that was passed on is the one that came
pub exit : {X : Type 0} (P : Result X Rejected → Type 0) (result : Result X Rejected) (err : Rejected) → IsErrAnd result (λ x. x ≡ err) → P (Err err) → P result
exit P (Ok x) err is p = absurd is
exit P (Err y) err is p = subst (λ e. P (Err e)) (sym is) p

pub range_there : (a n i : ℕ) → i < n → slice_get (range_with_len a n) i ≡ Some (a + i)
range_there a n i low =
    let size = length-range_with_len a n in
    slice_get-get_or (range_with_len a n) i 0 (omega arith) ∙ ap Some (get_or-range_with_len a n i 0 low)

pub range_at : (a n i k : ℕ) → slice_get (range_with_len a n) i ≡ Some k → (i < n) × (k ≡ a + i)
range_at a n i k at =
    let size = length-range_with_len a n in
    let within = slice_get_within (range_with_len a n) i k at in
    let low : i < n = omega arith in
    (low, same_Some k (a + i) (sym at ∙ range_there a n i low))

module _ (t : Topology) (c : Certificate) where
  -- the first of these checks fails
  pub fails_here : (check : Check) (after : List Check) (reported : Rejected) → ¬ Passes t c check → ReportsCheck t c check reported
      → FailsFirst t c (check ∷ after) reported
  fails_here check after reported fails tells = record {
    before = [];
    check = check;
    after = after;
    are = refl;
    passed = All-nil (Passes t c);
    fails = fails;
    tells = tells;
  }

  pub pass_one : (x : Check) → Passes t c x → All (Passes t c) (x ∷ [])
  pass_one x a zero d low = a
  pass_one x a (suc k) d low = absurd (omega arith)

  pub pass_two : (x y : Check) → Passes t c x → Passes t c y → All (Passes t c) (x ∷ y ∷ [])
  pass_two x y a b zero d low = a
  pass_two x y a b (suc zero) d low = b
  pass_two x y a b (suc (suc k)) d low = absurd (omega arith)

  pub pass_three : (x y z : Check) → Passes t c x → Passes t c y → Passes t c z → All (Passes t c) (x ∷ y ∷ z ∷ [])
  pass_three x y z a b c' zero d low = a
  pass_three x y z a b c' (suc zero) d low = b
  pass_three x y z a b c' (suc (suc zero)) d low = c'
  pass_three x y z a b c' (suc (suc (suc k))) d low = absurd (omega arith)

  -- the checks of one item fail, those of the items before it are passed
  pub flat_fails : {X : Type 0} (f : X → List Check) (xs : List X) (i : ℕ) (x : X) → slice_get xs i ≡ Some x
      → ((j : ℕ) (y : X) → j < i → slice_get xs j ≡ Some y → All (Passes t c) (f y)) → (reported : Rejected) → Judges t c (f x) (Err reported)
      → Judges t c (flat_map f xs) (Err reported)
  flat_fails f [] i x at before reported failed = absurd (cc)
  flat_fails f (z ∷ xs) zero x at before reported failed =
      failed_stop t c (f z) (flat_map f xs) reported (subst (λ y. Judges t c (f y) (Err reported)) (sym (same_Some z x at)) failed)
  flat_fails f (z ∷ xs) (suc i) x at before reported failed =
      passed_go_on t c (f z) (flat_map f xs) (Err reported) (before 0 z (omega arith) refl)
      (flat_fails f xs i x at (λ j y low there. before (suc j) y (omega arith) there) reported failed)

  pub flat_passes : {X : Type 0} (f : X → List Check) (xs : List X) → ((i : ℕ) (x : X) → slice_get xs i ≡ Some x → All (Passes t c) (f x))
      → All (Passes t c) (flat_map f xs)
  flat_passes f xs each = all_joined (Passes t c) f xs (all_from (λ x. All (Passes t c) (f x)) xs each)

  map_fails : {X : Type 0} (f : X → Check) (xs : List X) (i : ℕ) (x : X) → slice_get xs i ≡ Some x
      → ((j : ℕ) (y : X) → j < i → slice_get xs j ≡ Some y → Passes t c (f y)) → (reported : Rejected) → Judges t c (f x ∷ []) (Err reported)
      → Judges t c (map f xs) (Err reported)
  map_fails f [] i x at before reported failed = absurd (cc)
  map_fails f (z ∷ xs) zero x at before reported failed =
      failed_stop t c (f z ∷ []) (map f xs) reported (subst (λ y. Judges t c (f y ∷ []) (Err reported)) (sym (same_Some z x at)) failed)
  map_fails f (z ∷ xs) (suc i) x at before reported failed =
      passed_go_on t c (f z ∷ []) (map f xs) (Err reported) (pass_one (f z) (before 0 z (omega arith) refl))
      (map_fails f xs i x at (λ j y low there. before (suc j) y (omega arith) there) reported failed)

  -- the check of one place fails, those of the places before it are passed
  pub place_fails : {X : Type 0} (f : ℕ → Check) (xs : List X) (k : ℕ) → k < length xs → ((j : ℕ) → j < k → Passes t c (f j)) → (reported : Rejected)
      → Judges t c (f k ∷ []) (Err reported) → Judges t c (map f (places xs)) (Err reported)
  place_fails f xs k low before reported failed =
      map_fails f (places xs) k k (range_there 0 (length xs) k low ∙ ap Some zero_more)
      (λ j y less at. let is = range_at 0 (length xs) j y at in let e : j ≡ y = (let f = is.1 in omega arith) in subst (λ i. Passes t c (f i)) e (before j less)) reported failed
    where
      zero_more : 0 + k ≡ k
      zero_more = omega arith

  pub place_passes : {X : Type 0} (f : ℕ → Check) (xs : List X) → ((k : ℕ) → k < length xs → Passes t c (f k))
      → All (Passes t c) (map f (places xs))
  place_passes f xs each = places_of_checks (Passes t c) f xs each

  -- the checks of one number fail, those of the numbers before it are passed
  pub range_fails : (f : ℕ → List Check) (a n k : ℕ) → a ≤ k → k < a + n → ((j : ℕ) → a ≤ j → j < k → All (Passes t c) (f j)) → (reported : Rejected)
      → Judges t c (f k) (Err reported) → Judges t c (flat_map f (range_with_len a n)) (Err reported)
  range_fails f a n k least low before reported failed =
      let e : a + (k - a) ≡ k = omega arith in
      flat_fails f (range_with_len a n) (k - a) k (range_there a n (k - a) (omega arith) ∙ ap Some e)
      (λ j y less at.
      let is = range_at a n j y at in
      let here = is.1 in
      before y (omega arith) (omega arith))
      reported failed

  pub range_passes : (f : ℕ → List Check) (a n : ℕ) → ((k : ℕ) → a ≤ k → k < a + n → All (Passes t c) (f k))
      → All (Passes t c) (flat_map f (range_with_len a n))
  range_passes f a n each = all_joined (Passes t c) f (range_with_len a n) (range_of_all (λ k. All (Passes t c) (f k)) a n each)

-- What lists of numbers, mapped, joined and filtered have.
use Rattle.std.proofs.Common.{◌≡◌, ◌⊎◌, ℕ, zero, suc, ◌+◌, ◌-◌, ◌<◌, ◌≤◌, List, [], ◌∷◌, ◌++◌, length, map, get_or, Bool, true, false, cond, Some, refl, sym, ap, subst, ◌∙◌, inl, inr, arith}
use Rattle.std.specs.Prelude.{slice_get}
use Rattle.std.specs.List.{AllZip, Contains, filter, flat_map, range_with_len}
use Rattle.std.proofs.lemmas.List.FromFn.{length-range_with_len, get_or-range_with_len}
use Rattle.std.proofs.lemmas.List.Elements.{Contains-append_left, Contains-append_right, Contains-append_cases}
use Rattle.std.proofs.lemmas.List.Sums.{count_by-le-length}
use Rattle.std.proofs.lemmas.Option.{same_Some, slice_get-get_or, slice_get_within}
use Rattle.cb_coding.specs.Distance.{differ, bit, distance, all_columns, code_at}
use Rattle.cb_model.proofs.Rising.{contains_cases, contains_head, contains_tail, nothing_in_empty}

pub in_range : (a n k : ℕ) → Contains (range_with_len a n) k → (a ≤ k) × (k < a + n)
in_range a n k (i, low, is) =
    let long = length-range_with_len a n in
    let at = get_or-range_with_len a n i k (omega arith) in
    (omega arith, omega arith)

pub range_has : (a n k : ℕ) → a ≤ k → k < a + n → Contains (range_with_len a n) k
range_has a n k from to =
    let long = length-range_with_len a n in
    let at = get_or-range_with_len a n (k - a) k (omega arith) in
    (k - a, omega arith, omega arith)

pub from_mapped : {X Y : Type 0} (f : X → Y) (xs : List X) (y : Y) → Contains (map f xs) y → (x : X) × Contains xs x × (f x ≡ y)
from_mapped f [] y has = absurd (nothing_in_empty y has)
from_mapped f (x ∷ xs) y has =
    elim (contains_cases (f x) (map f xs) y has) [
      | inl same ↦ (x, contains_head x xs, same)
      | inr later ↦ let rest = from_mapped f xs y later in (rest.0, contains_tail x xs rest.0 rest.1, rest.2)
    ]

pub mapped_has : {X Y : Type 0} (f : X → Y) (xs : List X) (x : X) → Contains xs x → Contains (map f xs) (f x)
mapped_has f [] x has = absurd (nothing_in_empty x has)
mapped_has f (y ∷ ys) x has =
    elim (contains_cases y ys x has) [
      | inl same ↦ subst (λ z. Contains (map f (y ∷ ys)) (f z)) same (contains_head (f y) (map f ys))
      | inr later ↦ contains_tail (f y) (map f ys) (f x) (mapped_has f ys x later)
    ]

pub from_joined : {X Y : Type 0} (f : X → List Y) (xs : List X) (y : Y) → Contains (flat_map f xs) y → (x : X) × Contains xs x × Contains (f x) y
from_joined f [] y has = absurd (nothing_in_empty y has)
from_joined f (x ∷ xs) y has =
    elim (Contains-append_cases (f x) (flat_map f xs) y has) [
      | inl here ↦ (x, contains_head x xs, here)
      | inr later ↦ let rest = from_joined f xs y later in (rest.0, contains_tail x xs rest.0 rest.1, rest.2)
    ]

pub joined_has : {X Y : Type 0} (f : X → List Y) (xs : List X) (x : X) (y : Y) → Contains xs x → Contains (f x) y → Contains (flat_map f xs) y
joined_has f [] x y has here = absurd (nothing_in_empty x has)
joined_has f (z ∷ zs) x y has here =
    elim (contains_cases z zs x has) [
      | inl same ↦ Contains-append_left (f z) (flat_map f zs) y (subst (λ w. Contains (f w) y) (sym same) here)
      | inr later ↦ Contains-append_right (f z) (flat_map f zs) y (joined_has f zs x y later here)
    ]

filtered_head : {X : Type 0} (p : X → Bool) (x : X) (xs : List X) (y : X) (b : Bool) → p x ≡ b → Contains (cond b (x ∷ filter p xs) (filter p xs)) y
    → ((x ≡ y) × (p x ≡ true)) ⊎ Contains (filter p xs) y
filtered_head p x xs y true is has = elim (contains_cases x (filter p xs) y has) [
  | inl same ↦ inl (same, is)
  | inr later ↦ inr later
]
filtered_head p x xs y false is has = inr has

pub from_filtered : {X : Type 0} (p : X → Bool) (xs : List X) (y : X) → Contains (filter p xs) y → Contains xs y × (p y ≡ true)
from_filtered p [] y has = absurd (nothing_in_empty y has)
from_filtered p (x ∷ xs) y has =
    elim (filtered_head p x xs y (p x) refl has) [
      | inl here ↦ (subst (Contains (x ∷ xs)) here.0 (contains_head x xs), subst (λ z. p z ≡ true) here.0 here.1)
      | inr later ↦ let rest = from_filtered p xs y later in (contains_tail x xs y rest.0, rest.1)
    ]

kept_head : {X : Type 0} (x : X) (xs : List X) (b : Bool) → b ≡ true → Contains (cond b (x ∷ xs) xs) x
kept_head x xs true is = contains_head x xs
kept_head x xs false is = absurd (cc)

kept_tail : {X : Type 0} (x : X) (xs : List X) (y : X) (b : Bool) → Contains xs y → Contains (cond b (x ∷ xs) xs) y
kept_tail x xs y true has = contains_tail x xs y has
kept_tail x xs y false has = has

pub filtered_has : {X : Type 0} (p : X → Bool) (xs : List X) (y : X) → Contains xs y → p y ≡ true → Contains (filter p xs) y
filtered_has p [] y has is = absurd (nothing_in_empty y has)
filtered_has p (x ∷ xs) y has is =
    elim (contains_cases x xs y has) [
      | inl same ↦ subst (λ z. Contains (filter p (x ∷ xs)) z) same (kept_head x (filter p xs) (p x) (subst (λ z. p z ≡ true) (sym same) is))
      | inr later ↦ kept_tail x (filter p xs) y (p x) (filtered_has p xs y later is)
    ]

-- lists that go together item by item
pub zip_at : {X Y : Type 0} (R : X → Y → Type 0) (xs : List X) (ys : List Y) → AllZip R xs ys → (i : ℕ) (x : X) (y : Y) → slice_get xs i ≡ Some x
    → slice_get ys i ≡ Some y → R x y
zip_at R [] ys zip i x y at_x at_y = absurd (cc)
zip_at R (a ∷ xs) [] zip i x y at_x at_y = absurd zip
zip_at R (a ∷ xs) (b ∷ ys) zip zero x y at_x at_y =
    let p : a ≡ x = cc in
    let q : b ≡ y = cc in
    subst (R x) q (subst (λ z. R z b) p zip.0)
zip_at R (a ∷ xs) (b ∷ ys) zip (suc i) x y at_x at_y = zip_at R xs ys zip.1 i x y at_x at_y

pub zip_long : {X Y : Type 0} (R : X → Y → Type 0) (xs : List X) (ys : List Y) → AllZip R xs ys → length xs ≡ length ys
zip_long R [] [] zip = refl
zip_long R [] (b ∷ ys) zip = absurd zip
zip_long R (a ∷ xs) [] zip = absurd zip
zip_long R (a ∷ xs) (b ∷ ys) zip = let rest = zip_long R xs ys zip.1 in omega arith

-- within a list, what is given past its end doesn't matter
pub same_default : {X : Type 0} (xs : List X) (i : ℕ) (d e : X) → i < length xs → get_or xs i d ≡ get_or xs i e
same_default [] i d e low = absurd (omega arith)
same_default (x ∷ xs) zero d e low = refl
same_default (x ∷ xs) (suc i) d e low = same_default xs i d e (omega arith)

-- one item more is mapped
pub map_push : {X Y : Type 0} (f : X → Y) (xs : List X) (x : X) → map f (xs ++ x ∷ []) ≡ map f xs ++ f x ∷ []
map_push f [] x = refl
map_push f (y ∷ ys) x = ap (λ zs. f y ∷ zs) (map_push f ys x)

-- the code that a position gives
pub code_at_is : (codes : List (List Bool)) (i : ℕ) (code : List Bool) → slice_get codes i ≡ Some code → code_at codes i ≡ code
code_at_is codes i code at = same_Some _ _ (sym (slice_get-get_or codes i [] (slice_get_within codes i code at)) ∙ at)

-- codes differ at no more columns than there are
pub at_most_all : (n : ℕ) (v w : List Bool) → distance (all_columns n) v w ≤ n
at_most_all n v w =
    let few = count_by-le-length (λ k. differ (bit v k) (bit w k)) (all_columns n) in
    let long = length-range_with_len 0 n in
    omega arith

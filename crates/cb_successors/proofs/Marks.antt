-- Nodes of rows, and how many there are.
use Rattle.std.proofs.Common.{◌≡◌, ◌⊎◌, inl, inr, ◌+◌, ◌<◌, ◌≤◌, ◌||◌, ℕ, zero, suc, cond, List, [], ◌∷◌, Bool, true, false, length, replicate, slice_index_or, slice_set, refl, sym, ap, ◌∙◌, arith}
use Rattle.std.specs.Simd.Lanes.{zip2}
use Rattle.std.proofs.lemmas.Bool.{cases_eq, cases_lt}
use Rattle.std.proofs.lemmas.List.{same_lists, get_or_default, get_or_past, get_or-set_same, get_or-set_other, get_or-replicate, length-replicate}
use Rattle.std.proofs.lemmas.List.Sums.{sum_by-set, sum_by-cons}
use Rattle.std.proofs.lemmas.Simd.{length-zip2, get_or-zip2}
use Rattle.cb_successors.specs.Rows.{Has, ones}

abbrev one : Bool → ℕ
one b = cond b 1 0

one_within : (a b : Bool) → (a ≡ true → b ≡ true) → one a ≤ one b
one_within false b to = omega arith
one_within true b to = let e = ap one (to refl) in omega arith

-- a node more
pub ones-set : (row : List Bool) (node : ℕ) → node < length row → slice_index_or row node false ≡ false → ones (slice_set row node true) ≡ ones row + 1
ones-set row node lt off =
    let e = sum_by-set one row node true false lt in
    let f : one (slice_index_or row node false) ≡ 0 = ap one off in
    omega (arith, e, f)

pub has_set : (row : List Bool) (node : ℕ) → node < length row → Has (slice_set row node true) node
has_set row node lt = get_or-set_same row node true false lt

pub set_cases : (row : List Bool) (node k : ℕ) → Has (slice_set row node true) k → (k ≡ node) ⊎ Has row k
set_cases row node k has = elim (cases_eq k node) [
  | inl same ↦ inl same
  | inr other ↦ inr (sym (get_or-set_other row node k true false other) ∙ has)
]

-- a row within another has no more nodes
pub ones_within : (a b : List Bool) → length a ≡ length b → ((k : ℕ) → Has a k → Has b k) → ones a ≤ ones b
ones_within [] b same within = omega arith
ones_within (x ∷ a) [] same within = omega arith
ones_within (x ∷ a) (y ∷ b) same within =
    let rest : ones a ≤ ones b = ones_within a b (omega arith) (λ k. within (suc k)) in
    let first : one x ≤ one y = one_within x y (within 0) in
    omega (arith, sum_by-cons one x a, sum_by-cons one y b)

-- two truth values, each true where the other is
alike : (a b : Bool) → (a ≡ true → b ≡ true) → (b ≡ true → a ≡ true) → a ≡ b
alike true b to from = sym (to refl)
alike false true to from = from refl
alike false false to from = refl

or_true : (a b : Bool) → b ≡ true → (a || b) ≡ true
or_true true b is = refl
or_true false b is = is

one_true : (a b : Bool) → (a || b) ≡ true → (a ≡ true) ⊎ (b ≡ true)
one_true true b is = inl refl
one_true false b is = inr is

-- rows of one length with the same nodes are one
pub same_rows : (a b : List Bool) → length a ≡ length b → ((k : ℕ) → Has a k → Has b k) → ((k : ℕ) → Has b k → Has a k) → a ≡ b
same_rows a b same to from =
    same_lists a b same (λ k d lt.
    get_or_default a k d false lt ∙ alike (slice_index_or a k false) (slice_index_or b k false) (to k) (from k) ∙ get_or_default b k false d (omega arith))

-- the nodes of two rows that are joined
module _ (row other : List Bool) (same : length row ≡ length other) where
  abbrev both : List Bool
  both = zip2 (λ one other. one || other) row other

  or_at : (k : ℕ) → slice_index_or both k false ≡ (slice_index_or row k false || slice_index_or other k false)
  or_at k = elim (cases_lt k (length row)) [
    | inl lt ↦ get_or-zip2 (λ one other. one || other) row other k false false false lt (omega arith)
    | inr le ↦ get_or_past both k false (let e = length-zip2 (λ one other. one || other) row other same in omega arith)
        ∙ sym (ap (λ b. b || slice_index_or other k false) (get_or_past row k false le) ∙ get_or_past other k false (omega arith))
  ]

  pub or_left : (k : ℕ) → Has row k → Has (zip2 (λ one other. one || other) row other) k
  or_left k has = or_at k ∙ ap (λ b. b || slice_index_or other k false) has

  pub or_right : (k : ℕ) → Has other k → Has (zip2 (λ one other. one || other) row other) k
  or_right k has = or_at k ∙ or_true (slice_index_or row k false) (slice_index_or other k false) has

  pub or_cases : (k : ℕ) → Has (zip2 (λ one other. one || other) row other) k → Has row k ⊎ Has other k
  or_cases k has = one_true (slice_index_or row k false) (slice_index_or other k false) (sym (or_at k) ∙ has)

-- no node is in a row of false values
pub nothing : (nodes k : ℕ) → Has (replicate nodes false) k → ⊥
nothing nodes k has = elim (cases_lt k nodes) [
  | inl lt ↦ let e = get_or-replicate nodes k false false lt in cc
  | inr le ↦ let e = get_or_past (replicate nodes false) k false (let f = length-replicate nodes false in omega arith) in cc
]

pub no_ones : (nodes : ℕ) → ones (replicate nodes false) ≡ 0
no_ones zero = refl
no_ones (suc nodes) = let e = sum_by-cons one false (replicate nodes false) in let f = no_ones nodes in omega arith

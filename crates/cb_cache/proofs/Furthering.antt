-- A search that begins with a row whose untouched nodes are settled.
use Rattle.std.proofs.Common.{◌≡◌, ◌↔◌, ◌||◌, inl, inr, ◌+◌, ◌<◌, ℕ, suc, cond, List, [], ◌∷◌, Bool, true, false, length, replicate, slice_index_or, refl, sym, ap, subst, ◌∙◌, arith}
use Rattle.std.specs.Simd.Lanes.{zip2}
use Rattle.std.proofs.lemmas.Bool.{cases_lt, cases_Bool}
use Rattle.std.proofs.lemmas.List.{get_or_past}
use Rattle.std.proofs.lemmas.List.Sums.{sum_by-cons}
use Rattle.std.proofs.lemmas.Simd.{length-zip2}
use Rattle.cb_lanes.specs.Words.{bit_of}
use Rattle.cb_successors.specs.Rows.{Has, ones}
use Rattle.cb_successors.proofs.Marks.{nothing, or_cases}
use Rattle.cb_cache.specs.Reached.{AreFollowed, IsMet, IsLedByMet, CountsOnly}
use Rattle.cb_cache.specs.Extended.{AddsBelow, IsSettledBut, IsLedByWords, IsExpanded}

abbrev union : List Bool → List Bool → List Bool
union a b = zip2 (λ one other. one || other) a b

-- rows that have no node in common have together as many as both
pub ones_apart : (a b : List Bool) → length a ≡ length b → ((k : ℕ) → Has a k → ¬ Has b k) → ones (union a b) ≡ ones a + ones b
ones_apart [] [] same apart = refl
ones_apart [] (y ∷ b) same apart = absurd (omega arith)
ones_apart (x ∷ a) [] same apart = absurd (omega arith)
ones_apart (true ∷ a) (true ∷ b) same apart = absurd (apart 0 refl refl)
ones_apart (true ∷ a) (false ∷ b) same apart =
    let rest = ones_apart a b (omega arith) (λ k. apart (suc k)) in
    omega (arith, rest, sum_by-cons (λ x. cond x 1 0) true (union a b), sum_by-cons (λ x. cond x 1 0) true a, sum_by-cons (λ x. cond x 1 0) false b)
ones_apart (false ∷ a) (true ∷ b) same apart =
    let rest = ones_apart a b (omega arith) (λ k. apart (suc k)) in
    omega (arith, rest, sum_by-cons (λ x. cond x 1 0) true (union a b), sum_by-cons (λ x. cond x 1 0) false a, sum_by-cons (λ x. cond x 1 0) true b)
ones_apart (false ∷ a) (false ∷ b) same apart =
    let rest = ones_apart a b (omega arith) (λ k. apart (suc k)) in
    omega (arith, rest, sum_by-cons (λ x. cond x 1 0) false (union a b), sum_by-cons (λ x. cond x 1 0) false a, sum_by-cons (λ x. cond x 1 0) false b)

-- what is counted of one kind, and then of another
pub counts_both : (P Q R : ℕ → Type 0) (count first middle last : ℕ) → CountsOnly P count first middle → CountsOnly Q count middle last → ((k : ℕ) → P k → ¬ Q k)
    → ((k : ℕ) → P k → R k) → ((k : ℕ) → Q k → R k) → CountsOnly R count first last
counts_both P Q R count first middle last one other apart from_one from_other =
    let same = one.long ∙ sym other.long in
    record {
      row = union one.row other.row;
      long = length-zip2 (λ x y. x || y) one.row other.row same ∙ one.long;
      each = λ k has. elim (or_cases one.row other.row same k has) [
        | inl left ↦ from_one k (one.each k left)
        | inr right ↦ from_other k (other.each k right)
      ];
      few =
          let sum = ones_apart one.row other.row same (λ k left right. apart k (one.each k left) (other.each k right)) in
          let a = one.few in
          let b = other.few in
          omega arith;
    }

-- a node of a row is one of its places
pub has_low : (row : List Bool) (k : ℕ) → Has row k → k < length row
has_low row k has = elim (cases_lt k (length row)) [
  | inl lt ↦ lt
  | inr le ↦ absurd (let e = get_or_past row k false le in cc)
]

-- what was added, where there was nothing before
pub adds_first : (edge : ℕ → ℕ → Type 0) (touched : List Bool) (row words : List ℕ) (count capacity : ℕ) (first found : List Bool) → row ≡ words → first ≡ replicate capacity false → capacity ≡ count
    → AddsBelow edge touched row count first found → AddsBelow edge touched words count (replicate count false) found
adds_first edge touched row words count capacity first found same none long adds =
    subst (λ (ws : List ℕ). AddsBelow edge touched ws count (replicate count false) found) same
    (subst (λ (begun : List Bool). AddsBelow edge touched row count begun found) (none ∙ ap (λ n. replicate n false) long) adds)

module _ (edge : ℕ → ℕ → Type 0) (count : ℕ) (touched found : List Bool) (words : List ℕ) (long : length touched ≡ count)
    (adds : AddsBelow edge touched words count (replicate count false) found) where
  pub begun_followed : IsSettledBut edge touched words → AreFollowed edge found words
  begun_followed settled k next bit e = elim (cases_Bool (slice_index_or touched k false)) [
    | inl on ↦ inl (adds.next k next (let low = has_low touched k on in omega arith) on bit e)
    | inr off ↦ inr (settled k next bit (λ on. absurd (cc)) e)
  ]

  pub led_by_words : (k : ℕ) → IsLedByMet edge found words k ↔ IsLedByWords edge words k
  led_by_words k = (
    λ (from, met, leads). elim met [
      | inl has ↦ elim (adds.led from has) [
        | inl none ↦ absurd (nothing count from none)
        | inr (node, is_touched, bit, e) ↦ (node, bit, (from ∷ leads.0, (e, leads.1)))
      ]
      | inr bit ↦ (from, bit, leads)
    ],
    λ (from, bit, leads). (from, inr bit, leads),
  )

  pub counts_expanded : (found' done : List Bool) (joined' : List ℕ) (first middle last : ℕ) → ((k : ℕ) → IsMet found' joined' k ↔ IsLedByMet edge found words k)
      → ((k : ℕ) → Has done k → IsMet found' joined' k) → CountsOnly (λ k. Has touched k × (bit_of words k ≡ true)) count first middle
      → CountsOnly (λ k. Has done k × ¬ (bit_of words k ≡ true)) count middle last → CountsOnly (IsExpanded edge touched words) count first last
  counts_expanded found' done joined' first middle last met within one other =
      counts_both _ _ (IsExpanded edge touched words) count first middle last one other
      (λ k p q. q.1 p.1) (λ k p. inl p) (λ k q. inr ((led_by_words k).0 ((met k).0 (within k q.0)), q.1))

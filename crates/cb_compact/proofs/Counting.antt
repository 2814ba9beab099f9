-- Counts of places at which two rows differ, one place further.
use Rattle.std.proofs.Common.{◌≡◌, ℕ, zero, suc, ◌+◌, ◌<◌, ◌≤◌, List, [], ◌∷◌, ◌&&◌, length, slice_index_or, Bool, true, false, ◌-◌, cond, refl, ap, subst, ◌∙◌, inl, inr, arith}
use Rattle.std.specs.List.{count_by, filter, sum_by, range_with_len}
use Rattle.std.proofs.lemmas.Bool.{cases_lt, both_ways}
use Rattle.std.proofs.lemmas.List.{get_or_past}
use Rattle.std.proofs.lemmas.List.Elements.{filter-append}
use Rattle.std.proofs.lemmas.List.FromFn.{length-range_with_len}
use Rattle.cb_compact.proofs.Numbers.{numbers_more}
use Rattle.std.proofs.lemmas.List.Sums.{sum_by-append, sum_by-cons, sum_by_push, count_by-le-length}
use Rattle.cb_compact.specs.Compact.{differs, differing_before, IsNextDiffering, DifferNowhereFrom}

-- what a place adds to a count
abbrev pub once : Bool → ℕ
once b = cond b 1 0

pub adds_one : (b : Bool) → b ≡ true → once b ≡ 1
adds_one true is = refl
adds_one false is = absurd (cc)

pub adds_none : (b : Bool) → b ≡ false → once b ≡ 0
adds_none false is = refl
adds_none true is = absurd (cc)

second_none : (a b : Bool) → b ≡ false → once (a && b) ≡ 0
second_none true b is = adds_none b is
second_none false b is = refl

-- past their ends rows don't differ
pub both_false : (v w : List Bool) (k : ℕ) → slice_index_or v k false ≡ false → slice_index_or w k false ≡ false → differs v w k ≡ false
both_false v w k is is' = rw (is, is') refl

module _ (v w : List Bool) where
  pub differ_within : length v ≡ length w → (k : ℕ) → differs v w k ≡ true → k < length v
  differ_within same k is = elim (cases_lt k (length v)) [
    | inl lt ↦ lt
    | inr past ↦ absurd (both_ways _ (both_false v w k (get_or_past v k false past) (get_or_past w k false (omega arith))) is)
  ]

  pub no_more_than : (n : ℕ) → differing_before n v w ≤ n
  no_more_than n = let few = count_by-le-length (differs v w) (range_with_len 0 n) in let long = length-range_with_len 0 n in omega arith

  pub before_more : (n : ℕ) → differing_before (n + 1) v w ≡ differing_before n v w + once (differs v w n)
  before_more n =
      let tests : ℕ → ℕ = λ k. once (differs v w k) in
      ap (sum_by tests) (numbers_more n) ∙ sum_by_push tests (range_with_len 0 n) n

  -- rows that differ nowhere from one place up to another differ as often before both
  pub none_between : (n from to : ℕ) → from + n ≡ to → ((k : ℕ) → from ≤ k → k < to → differs v w k ≡ false)
      → differing_before to v w ≡ differing_before from v w
  none_between zero from to e none = let same : to ≡ from = omega arith in ap (λ m. differing_before m v w) same
  none_between (suc n) from to e none =
      let last : to ≡ from + n + 1 = omega arith in
      let whole = ap (λ m. differing_before m v w) last in
      let more = before_more (from + n) in
      let here = adds_none (differs v w (from + n)) (none (from + n) (omega arith) (omega arith)) in
      let rest = none_between n from (from + n) refl (λ k late early. none k late (omega arith)) in
      omega arith

  -- before more places they differ at no fewer
  pub no_fewer : (n from to : ℕ) → from + n ≡ to → differing_before from v w ≤ differing_before to v w
  no_fewer zero from to e = let same : to ≡ from = omega arith in let whole = ap (λ m. differing_before m v w) same in omega arith
  no_fewer (suc n) from to e =
      let last : to ≡ from + n + 1 = omega arith in
      let whole = ap (λ m. differing_before m v w) last in
      let more = before_more (from + n) in
      let rest = no_fewer n from (from + n) refl in
      omega arith

  -- up to the next place at which they differ, and with it
  pub before_next : (from k : ℕ) → IsNextDiffering v w from k → differing_before k v w ≡ differing_before from v w
  before_next from k next = let on = next.on in none_between (k - from) from k (omega arith) next.first

  pub with_next : (from k : ℕ) → IsNextDiffering v w from k → differing_before (k + 1) v w ≡ differing_before from v w + 1
  with_next from k next =
      let same = before_next from k next in
      let more = before_more k in
      let one = adds_one (differs v w k) next.is in
      omega arith

  -- and where they differ nowhere further
  pub before_end : (from to : ℕ) → from ≤ to → DifferNowhereFrom v w from → differing_before to v w ≡ differing_before from v w
  before_end from to le none = none_between (to - from) from to (omega arith) (λ k low high. none k low)

-- what is found of rows is found of the same rows
pub next_alike : (v w v' w' : List Bool) (from k : ℕ) → v ≡ v' → w ≡ w' → IsNextDiffering v w from k → IsNextDiffering v' w' from k
next_alike v w v' w' from k same same' next = subst (λ u. IsNextDiffering v' u from k) same' (subst (λ u. IsNextDiffering u w from k) same next)

pub none_alike : (v w v' w' : List Bool) (from : ℕ) → v ≡ v' → w ≡ w' → DifferNowhereFrom v w from → DifferNowhereFrom v' w' from
none_alike v w v' w' from same same' none = subst (λ u. DifferNowhereFrom v' u from) same' (subst (λ u. DifferNowhereFrom u w from) same none)

-- the same, of the ones of a mask
module _ (mask v w : List Bool) where
  abbrev masked : ℕ → Bool
  masked k = slice_index_or mask k false

  abbrev pub under_before : ℕ → ℕ
  under_before n = count_by (differs v w) (filter masked (range_with_len 0 n))

  one_counted : (n : ℕ) (b : Bool) → masked n ≡ b → count_by (differs v w) (filter masked (n ∷ [])) ≡ once (b && differs v w n)
  one_counted n true is = rw is (let sum = sum_by-cons (λ k. once (differs v w k)) n [] in let none : count_by (differs v w) [] ≡ 0 = refl in omega arith)
  one_counted n false is = rw is refl

  pub under_more : (n : ℕ) → under_before (n + 1) ≡ under_before n + once (masked n && differs v w n)
  under_more n =
      let parts = ap (filter masked) (numbers_more n) ∙ filter-append masked (range_with_len 0 n) (n ∷ []) in
      let sum = sum_by-append (λ k. once (differs v w k)) (filter masked (range_with_len 0 n)) (filter masked (n ∷ [])) in
      let whole = ap (count_by (differs v w)) parts in
      let here = one_counted n (masked n) refl in
      omega arith

  pub none_under_between : (n from to : ℕ) → from + n ≡ to → ((k : ℕ) → from ≤ k → k < to → differs v w k ≡ false) → under_before to ≡ under_before from
  none_under_between zero from to e none = let same : to ≡ from = omega arith in ap under_before same
  none_under_between (suc n) from to e none =
      let last : to ≡ from + n + 1 = omega arith in
      let whole = ap under_before last in
      let more = under_more (from + n) in
      let here = second_none (masked (from + n)) (differs v w (from + n)) (none (from + n) (omega arith) (omega arith)) in
      let rest = none_under_between n from (from + n) refl (λ k late early. none k late (omega arith)) in
      omega arith

  -- before more places there are no fewer
  pub under_no_fewer : (n from to : ℕ) → from + n ≡ to → under_before from ≤ under_before to
  under_no_fewer zero from to e = let same : to ≡ from = omega arith in let whole = ap under_before same in omega arith
  under_no_fewer (suc n) from to e =
      let last : to ≡ from + n + 1 = omega arith in
      let whole = ap under_before last in
      let more = under_more (from + n) in
      let rest = under_no_fewer n from (from + n) refl in
      omega arith

  pub under_with_one : (from k : ℕ) → IsNextDiffering v w from k → masked k ≡ true → under_before (k + 1) ≡ under_before from + 1
  under_with_one from k next here =
      let on = next.on in
      let same = none_under_between (k - from) from k (omega arith) next.first in
      let more = under_more k in
      let one : once (masked k && differs v w k) ≡ 1 = rw (here, next.is) refl in
      omega arith

  pub under_with_none : (from k : ℕ) → IsNextDiffering v w from k → masked k ≡ false → under_before (k + 1) ≡ under_before from
  under_with_none from k next here =
      let on = next.on in
      let same = none_under_between (k - from) from k (omega arith) next.first in
      let more = under_more k in
      let none : once (masked k && differs v w k) ≡ 0 = rw here refl in
      omega arith

  pub under_to_end : (from to : ℕ) → from ≤ to → DifferNowhereFrom v w from → under_before to ≡ under_before from
  under_to_end from to le none = none_under_between (to - from) from to (omega arith) (λ k low high. none k low)

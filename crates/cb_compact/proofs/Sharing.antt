-- At how many positions two rows differ, by how many ones they have and how many they share.
use Rattle.std.proofs.Common.{Vec, Global, ◌-◌, Option, ◌≡◌, ℕ, ◌+◌, ◌*◌, ◌≤◌, ◌<◌, ◌&&◌, List, [], ◌∷◌, Bool, true, false, not, length, slice_index_or, refl, sym, ap, subst, ◌∙◌, inl, inr, arith}
use Rattle.std.specs.Prelude.{SomeIff}
use Rattle.std.specs.List.{All, count_by, filter, range_with_len}
use Rattle.std.proofs.lemmas.Bool.{cases_Bool}
use Rattle.std.proofs.lemmas.List.Elements.{All-from_get_or}
use Rattle.std.proofs.lemmas.List.Sums.{sum_by-cons, length-filter, count_by-le-length, sum_by-le-sum_by}
use mathlib.Core.Bool.{beq}
use Rattle.cb_bits.specs.Bits.{differing}
use Rattle.cb_compact.specs.declared.compact.Kept.{Kept}
use Rattle.cb_compact.specs.declared.compact.Kept.TheVariants.{Places}
use Rattle.cb_compact.specs.Compact.{ones_of, values_of, KeepsRow, IsCompactOf, differs, differing_under}
use Rattle.cb_compact.proofs.Counting.{once, no_more_than}
use Rattle.cb_compact.proofs.Ones.{by_places, one_at, one_within}

-- a count over what passes a test is one of what passes both
filtered : (g h : ℕ → Bool) (xs : List ℕ) → count_by h (filter g xs) ≡ count_by (λ k. g k && h k) xs
filtered g h [] = refl
filtered g h (x ∷ xs) =
    let rest = filtered g h xs in
    let sum = sum_by-cons (λ k. once (g k && h k)) x xs in
    elim (cases_Bool (g x)) [
      | inl is ↦
          let here : count_by h (filter g (x ∷ xs)) ≡ once (h x) + count_by h (filter g xs) = rw is (sum_by-cons (λ k. once (h k)) x (filter g xs)) in
          let one : once (g x && h x) ≡ once (h x) = rw is refl in
          omega arith
      | inr isnt ↦
          let here : count_by h (filter g (x ∷ xs)) ≡ count_by h (filter g xs) = rw isnt refl in
          let none : once (g x && h x) ≡ 0 = rw isnt refl in
          omega arith
    ]

differ_here : (a b : Bool) → once (not (beq a b)) + 2 * once (a && b) ≡ once a + once b
differ_here true true = refl
differ_here true false = refl
differ_here false true = refl
differ_here false false = refl

second_le : (a b : Bool) → once (a && b) ≤ once b
second_le true true = omega arith
second_le true false = omega arith
second_le false true = omega arith
second_le false false = omega arith

first_le : (a b : Bool) → once (a && b) ≤ once a
first_le true true = omega arith
first_le true false = omega arith
first_le false true = omega arith
first_le false false = omega arith

module _ (f g : ℕ → Bool) where
  differ_counted : (xs : List ℕ) → count_by (λ k. not (beq (f k) (g k))) xs + 2 * count_by (λ k. f k && g k) xs ≡ count_by f xs + count_by g xs
  differ_counted [] = refl
  differ_counted (x ∷ xs) =
      let rest = differ_counted xs in
      let here = differ_here (f x) (g x) in
      let apart = sum_by-cons (λ k. once (not (beq (f k) (g k)))) x xs in
      let both = sum_by-cons (λ k. once (f k && g k)) x xs in
      let one = sum_by-cons (λ k. once (f k)) x xs in
      let other = sum_by-cons (λ k. once (g k)) x xs in
      omega arith

under_here : (m a b : Bool) → once (m && not (beq a b)) + 2 * once (a && (m && b)) + once (m && not (beq b m)) ≡ once (a && m) + once m
under_here true true true = refl
under_here true true false = refl
under_here true false true = refl
under_here true false false = refl
under_here false true true = refl
under_here false true false = refl
under_here false false true = refl
under_here false false false = refl

within_here : (m a b : Bool) → once (a && (m && b)) + once (m && not (beq b m)) ≤ once m
within_here true true true = omega arith
within_here true true false = omega arith
within_here true false true = omega arith
within_here true false false = omega arith
within_here false true true = omega arith
within_here false true false = omega arith
within_here false false true = omega arith
within_here false false false = omega arith

module _ (m f g : ℕ → Bool) where
  under_counted : (xs : List ℕ) → count_by (λ k. m k && not (beq (f k) (g k))) xs + 2 * count_by (λ k. f k && (m k && g k)) xs + count_by (λ k. m k && not (beq (g k) (m k))) xs
      ≡ count_by (λ k. f k && m k) xs + count_by m xs
  under_counted [] = refl
  under_counted (x ∷ xs) =
      let rest = under_counted xs in
      let here = under_here (m x) (f x) (g x) in
      let apart = sum_by-cons (λ k. once (m k && not (beq (f k) (g k)))) x xs in
      let both = sum_by-cons (λ k. once (f k && (m k && g k))) x xs in
      let missing = sum_by-cons (λ k. once (m k && not (beq (g k) (m k)))) x xs in
      let one = sum_by-cons (λ k. once (f k && m k)) x xs in
      let all = sum_by-cons (λ k. once (m k)) x xs in
      omega arith

  within_counted : (xs : List ℕ) → count_by (λ k. f k && (m k && g k)) xs + count_by (λ k. m k && not (beq (g k) (m k))) xs ≤ count_by m xs
  within_counted [] = omega arith
  within_counted (x ∷ xs) =
      let rest = within_counted xs in
      let here = within_here (m x) (f x) (g x) in
      let both = sum_by-cons (λ k. once (f k && (m k && g k))) x xs in
      let missing = sum_by-cons (λ k. once (m k && not (beq (g k) (m k)))) x xs in
      let all = sum_by-cons (λ k. once (m k)) x xs in
      omega arith

abbrev bit : List Bool → ℕ → Bool
bit row k = slice_index_or row k false

-- the positions of a row's ones are positions of each row of its length
pub ones_within : (row : List Bool) (n : ℕ) → length row ≡ n → All (λ k. k < n) (ones_of row)
ones_within row n e = All-from_get_or (λ k. k < n) (ones_of row) 0 (λ i lt. let within = one_within row (slice_index_or (ones_of row) i 0) (one_at row i lt) in omega arith)

module _ (v w : List Bool) (same : length v ≡ length w) where
  abbrev numbers : List ℕ
  numbers = range_with_len 0 (length v)

  -- how many ones the two share
  abbrev pub both_of : ℕ
  both_of = count_by (bit w) (ones_of v)

  pub beside : differing v w + 2 * both_of ≡ length (ones_of v) + count_by (λ value. value) w
  beside =
      let sum = differ_counted (bit v) (bit w) numbers in
      let both = filtered (bit v) (bit w) numbers in
      let one = length-filter (bit v) numbers in
      let other = ap (λ n. count_by (bit w) (range_with_len 0 n)) same ∙ by_places w in
      omega arith

  pub both_fit : (both_of ≤ length (ones_of v)) × (both_of ≤ count_by (λ value. value) w)
  both_fit =
      let both = filtered (bit v) (bit w) numbers in
      let few = count_by-le-length (bit w) (ones_of v) in
      let other = ap (λ n. count_by (bit w) (range_with_len 0 n)) same ∙ by_places w in
      let less = sum_by-le-sum_by (λ k. once (bit v k && bit w k)) (λ k. once (bit w k)) numbers (λ k. second_le (bit v k) (bit w k)) in
      (omega arith, omega arith)

  module _ (mask : List Bool) (masked : length v ≡ length mask) where
    abbrev pub both_under : ℕ
    both_under = count_by (λ k. bit mask k && bit w k) (ones_of v)

    by_mask : (h : ℕ → Bool) → count_by h (ones_of mask) ≡ count_by (λ k. bit mask k && h k) numbers
    by_mask h = filtered (bit mask) h (range_with_len 0 (length mask)) ∙ ap (λ n. count_by (λ k. bit mask k && h k) (range_with_len 0 n)) (sym masked)

    all_masked : count_by (bit mask) numbers ≡ count_by (λ value. value) mask
    all_masked = ap (λ n. count_by (bit mask) (range_with_len 0 n)) masked ∙ by_places mask

    pub beside_under : differing_under mask v w + 2 * both_under + differing_under mask w mask ≡ count_by (bit mask) (ones_of v) + count_by (λ value. value) mask
    beside_under =
        let sum = under_counted (bit mask) (bit v) (bit w) numbers in
        let apart = by_mask (differs v w) in
        let missing = by_mask (differs w mask) in
        let both = filtered (bit v) (λ k. bit mask k && bit w k) numbers in
        let one = filtered (bit v) (bit mask) numbers in
        let all = all_masked in
        omega arith

    pub under_fit : (both_under ≤ count_by (bit mask) (ones_of v)) × (both_under + differing_under mask w mask ≤ count_by (λ value. value) mask)
    under_fit =
        let within = within_counted (bit mask) (bit v) (bit w) numbers in
        let missing = by_mask (differs w mask) in
        let both = filtered (bit v) (λ k. bit mask k && bit w k) numbers in
        let all = all_masked in
        let less = sum_by-le-sum_by (λ k. once (bit mask k && bit w k)) (λ k. once (bit mask k)) (ones_of v) (λ k. first_le (bit mask k) (bit w k)) in
        (omega arith, omega arith)

-- what a row stores as a list are its ones
pub listed_of : (v : List Bool) (kept : Kept) (n weight : ℕ) (places : Vec ℕ Global) → values_of kept n ≡ v → IsCompactOf kept n weight → kept ≡ Places places → places.items ≡ ones_of v
listed_of v kept n weight places view is same = subst (λ k. KeepsRow v k) same (subst (λ r. KeepsRow r kept) view is.keeps)

-- the same of a list that has the positions of the ones
module _ (list : List ℕ) (v w : List Bool) (are : list ≡ ones_of v) (same : length v ≡ length w) where
  pub list_within : (n : ℕ) → length v ≡ n → All (λ k. k < n) list
  list_within n e = subst (All (λ k. k < n)) (sym are) (ones_within v n e)

  module _ (both ones : ℕ) (shared : both ≡ count_by (λ k. slice_index_or w k false) list) (weighs : ones ≡ count_by (λ value. value) w) where
    is_shared : both ≡ both_of v w same
    is_shared = shared ∙ ap (count_by (λ k. slice_index_or w k false)) are

    pub shared_fits : (both ≤ length list) × (both ≤ ones)
    shared_fits =
        let fit = both_fit v w same in
        let one = fit.0 in
        let other = fit.1 in
        let is = is_shared in
        let long = ap length are in
        (omega arith, omega arith)

    pub apart_is : (length list - both) + (ones - both) ≡ differing v w
    apart_is =
        let fit = both_fit v w same in
        let one = fit.0 in
        let other = fit.1 in
        let is = is_shared in
        let long = ap length are in
        let sum = beside v w same in
        omega arith

    pub apart_fits : (length list - both) + (ones - both) ≤ length w
    apart_fits = let is = apart_is in let few = no_more_than v w (length v) in omega arith

  module _ (mask : List Bool) (masked : length v ≡ length mask) (own both missing all : ℕ)
      (has : own ≡ count_by (λ k. slice_index_or mask k false) list) (shared : both ≡ count_by (λ k. slice_index_or mask k false && slice_index_or w k false) list)
      (misses : missing ≡ differing_under mask w mask) (weighs : all ≡ count_by (λ value. value) mask) where
    is_own : own ≡ count_by (λ k. slice_index_or mask k false) (ones_of v)
    is_own = has ∙ ap (count_by (λ k. slice_index_or mask k false)) are

    is_both : both ≡ both_under v w same mask masked
    is_both = shared ∙ ap (count_by (λ k. slice_index_or mask k false && slice_index_or w k false)) are

    pub under_fits : (both ≤ own) × (missing ≤ all) × (both ≤ all - missing)
    under_fits =
        let fit = under_fit v w same mask masked in
        let one = fit.0 in
        let other = fit.1 in
        let own_is = is_own in
        let both_is = is_both in
        (omega arith, omega arith, omega arith)

    pub under_is_apart : (own - both) + (all - missing - both) ≡ differing_under mask v w
    under_is_apart =
        let fit = under_fit v w same mask masked in
        let one = fit.0 in
        let other = fit.1 in
        let own_is = is_own in
        let both_is = is_both in
        let sum = beside_under v w same mask masked in
        omega arith

-- a number below a limit is also the number that it equals
pub below_is : (found : Option ℕ) (count limit distance : ℕ) → SomeIff found (count < limit) count → count ≡ distance → SomeIff found (distance < limit) distance
below_is found count limit distance is same = subst (λ n. SomeIff found (n < limit) n) same is

-- the two differ either way round at as many
turned_here : (a b : Bool) → not (beq a b) ≡ not (beq b a)
turned_here true true = refl
turned_here true false = refl
turned_here false true = refl
turned_here false false = refl

module _ (v w : List Bool) where
  turned_counted : (xs : List ℕ) → count_by (differs v w) xs ≡ count_by (differs w v) xs
  turned_counted [] = refl
  turned_counted (x ∷ xs) =
      let rest = turned_counted xs in
      let here = ap once (turned_here (bit v x) (bit w x)) in
      let one = sum_by-cons (λ k. once (differs v w k)) x xs in
      let other = sum_by-cons (λ k. once (differs w v k)) x xs in
      omega arith

  pub turned : length v ≡ length w → differing v w ≡ differing w v
  turned same = turned_counted (range_with_len 0 (length v)) ∙ ap (λ n. count_by (differs w v) (range_with_len 0 n)) same

  pub turned_under : (mask : List Bool) → differing_under mask v w ≡ differing_under mask w v
  turned_under mask = turned_counted (ones_of mask)

-- The places of the ones of a row.
use Rattle.std.proofs.Common.{◌≡◌, ◌==◌, ℕ, ◌<◌, ◌≤◌, ◌&&◌, cond, Bool, true, false, List, length, map, slice_index_or, refl, sym, ap, subst, ◌∙◌, inl, inr, arith}
use Rattle.std.specs.List.{count_by, list_any, range_with_len}
use Rattle.std.proofs.lemmas.Bool.{cases_lt, cases_eq, cases_Bool, both_ways, eqb-true, eq-eqb}
use Rattle.std.proofs.lemmas.List.{same_lists, get_or_default, get_or_past}
use Rattle.std.proofs.lemmas.List.Elements.{filter_passes}
use Rattle.std.proofs.lemmas.List.Folds.{list_any_at}
use Rattle.std.proofs.lemmas.List.FromFn.{length-range_with_len, get_or-range_with_len, length-map-range_with_len, get_or-map-range_with_len}
use Rattle.std.proofs.lemmas.List.Kept.{AllPairs-filter}
use Rattle.std.proofs.lemmas.List.Sums.{length-filter, count_by-le-length}
use Rattle.std.proofs.lemmas.Map.Views.{Contains-from_any, any-filter_same}
use Rattle.cb_bits.proofs.Totals.{sum_by-map}
use Rattle.cb_bits.specs.Bits.{IsNextOne, HasNoneFrom}
use Rattle.cb_compact.specs.declared.compact.Kept.{Kept}
use Rattle.cb_compact.specs.declared.compact.Kept.TheVariants.{Places, Whole}
use Rattle.cb_compact.specs.Compact.{ones_of, with_ones, values_of, KeepsRow, AreRising, AreBefore}

numbers_rise : (n : ℕ) → AreRising (range_with_len 0 n)
numbers_rise n i j d lt le =
    let long = length-range_with_len 0 n in
    omega (arith, get_or-range_with_len 0 n i d (omega arith), get_or-range_with_len 0 n j d (omega arith))

and_true : (b : Bool) → (b && true) ≡ b
and_true true = refl
and_true false = refl

module _ (row : List Bool) where
  abbrev bit : ℕ → Bool
  bit k = slice_index_or row k false

  -- a one stands within the row
  pub one_within : (k : ℕ) → bit k ≡ true → k < length row
  one_within k is = elim (cases_lt k (length row)) [
    | inl lt ↦ lt
    | inr past ↦ absurd (both_ways _ (get_or_past row k false past) is)
  ]

  pub ones_rise : AreRising (ones_of row)
  ones_rise = AllPairs-filter (λ k l. k < l) bit (range_with_len 0 (length row)) (numbers_rise (length row))

  pub few_ones : length (ones_of row) ≤ length row
  few_ones =
      let long = length-range_with_len 0 (length row) in
      let are = length-filter bit (range_with_len 0 (length row)) in
      let few = count_by-le-length bit (range_with_len 0 (length row)) in
      omega arith

  pub one_at : (i : ℕ) → i < length (ones_of row) → bit (slice_index_or (ones_of row) i 0) ≡ true
  one_at i lt = filter_passes bit (range_with_len 0 (length row)) i 0 lt

  listed_is : (k : ℕ) → k < length row → list_any (λ place. k == place) (ones_of row) ≡ bit k
  listed_is k lt =
      let long = length-range_with_len 0 (length row) in
      let there : list_any (λ place. k == place) (range_with_len 0 (length row)) ≡ true =
      list_any_at (λ place. k == place) (range_with_len 0 (length row)) k 0 (omega arith) (eq-eqb k (slice_index_or (range_with_len 0 (length row)) k 0) (let at = get_or-range_with_len 0 (length row) k 0 lt in omega arith))
      in
      any-filter_same (λ place. k == place) bit (bit k) (λ x is. ap bit (sym (eqb-true k x is))) (range_with_len 0 (length row))
      ∙ ap (λ b. bit k && b) there ∙ and_true (bit k)

  -- each one is listed
  pub listed : (k : ℕ) → bit k ≡ true → (i : ℕ) × (i < length (ones_of row)) × (slice_index_or (ones_of row) i 0 ≡ k)
  listed k is =
      let there = Contains-from_any (λ x y same. eqb-true x y same) k (ones_of row) (listed_is k (one_within k is) ∙ is) in
      (there.0, there.1, get_or_default (ones_of row) there.0 0 k there.1 ∙ there.2)

  -- with its ones a row has its values
  pub values_are : with_ones (ones_of row) (length row) ≡ row
  values_are =
      let value : ℕ → Bool = λ k. list_any (λ place. k == place) (ones_of row) in
      let long = length-map-range_with_len value 0 (length row) in
      same_lists (with_ones (ones_of row) (length row)) row long
      (λ k d lt. get_or-map-range_with_len value 0 (length row) k k d (omega arith) (omega arith) ∙ listed_is k (omega arith) ∙ get_or_default row k false d (omega arith))

  by_values : row ≡ map bit (range_with_len 0 (length row))
  by_values = same_lists row (map bit (range_with_len 0 (length row))) (sym (length-map-range_with_len bit 0 (length row)))
      (λ k d lt. get_or_default row k d false lt ∙ sym (get_or-map-range_with_len bit 0 (length row) k k d lt (omega arith)))

  -- its ones, counted by their places
  pub by_places : count_by bit (range_with_len 0 (length row)) ≡ count_by (λ value. value) row
  by_places =
      let digit : Bool → ℕ = λ b. cond b 1 0 in
      sym (ap (count_by (λ value. value)) by_values ∙ sum_by-map digit bit (range_with_len 0 (length row)))

-- places that are those of a row's ones
module _ (places : List ℕ) (row : List Bool) (are : places ≡ ones_of row) where
  pub places_rise : AreRising places
  places_rise = subst AreRising (sym are) (ones_rise row)

  pub is_one : (i : ℕ) → i < length places → slice_index_or row (slice_index_or places i 0) false ≡ true
  is_one = subst (λ ps. (i : ℕ) → i < length ps → slice_index_or row (slice_index_or ps i 0) false ≡ true) (sym are) (one_at row)

  is_listed : (k : ℕ) → slice_index_or row k false ≡ true → (i : ℕ) × (i < length places) × (slice_index_or places i 0 ≡ k)
  is_listed = subst (λ ps. (k : ℕ) → slice_index_or row k false ≡ true → (i : ℕ) × (i < length ps) × (slice_index_or ps i 0 ≡ k)) (sym are) (listed row)

  module _ (from at : ℕ) (before : AreBefore places from at) where
    -- no one stands from there up to the place at that index
    pub none_until : (k : ℕ) → from ≤ k → (at < length places → k < slice_index_or places at 0) → slice_index_or row k false ≡ false
    none_until k low high = elim (cases_Bool (slice_index_or row k false)) [
      | inl is ↦
          let there = is_listed k is in
          let same = there.2 in
          elim (cases_lt there.0 at) [
            | inl early ↦ let lt = before.before there.0 early in absurd (omega arith)
            | inr late ↦
                let inside = there.1 in
                let next = high (omega arith) in
                elim (cases_eq at there.0) [
                  | inl e ↦ let here = ap (λ i. slice_index_or places i 0) e in absurd (omega arith)
                  | inr other ↦ let later = places_rise at there.0 0 (omega arith) inside in absurd (omega arith)
                ]
          ]
      | inr isnt ↦ isnt
    ]

    pub next_is : at < length places → IsNextOne row from (slice_index_or places at 0)
    next_is lt = record {
      on = before.after at (omega arith) lt;
      is = is_one at lt;
      first = λ j low high. none_until j low (λ inside. high);
    }

    pub none_is : length places ≤ at → HasNoneFrom row from
    none_is end k low = none_until k low (λ lt. absurd (omega arith))

    -- a place is a one where it stands at that index
    pub is_there : at < length places → slice_index_or places at 0 ≡ from → slice_index_or row from false ≡ true
    is_there lt same = ap (λ k. slice_index_or row k false) (sym same) ∙ is_one at lt

    pub is_nowhere : (at < length places → ¬ (slice_index_or places at 0 ≡ from)) → slice_index_or row from false ≡ false
    is_nowhere other = none_until from (omega arith) (λ lt. let le = before.after at (omega arith) lt in let no = other lt in omega arith)

-- what is kept of a row has its values
pub kept_values : (row : List Bool) (kept : Kept) → KeepsRow row kept → values_of kept (length row) ≡ row
kept_values row (Places places) keeps = ap (λ ps. with_ones ps (length row)) keeps ∙ values_are row
kept_values row (Whole whole) keeps = keeps

-- Rows whose next ones are known.
use Rattle.std.proofs.Common.{◌≡◌, ℕ, ◌+◌, ◌<◌, ◌≤◌, Bool, true, false, not, List, length, slice_index_or, refl, sym, ap, subst, ◌∙◌, inl, inr, arith, Option, None, Some}
use mathlib.Core.Bool.{beq}
use Rattle.std.specs.Prelude.{IfSome, IfNone}
use Rattle.std.proofs.lemmas.Bool.{cases_lt, cases_eq, cases_order, both_ways, eq-eqb, ne_eqb}
use Rattle.cb_bits.specs.Bits.{IsNextOne, HasNoneFrom}
use Rattle.cb_compact.specs.Compact.{ones_of, AreBefore, differs, IsNextDiffering, DifferNowhereFrom}
use Rattle.cb_compact.specs.Cursors.{IsNextFrom, IsCursorAt, is_at, lower_of}
use Rattle.cb_compact.proofs.Counting.{both_false}
use Rattle.cb_compact.proofs.Ones.{one_within, one_at, ones_rise, listed, few_ones}

-- what a search for the next one answers
pub cursor_is : (row : List Bool) (from : ℕ) (found : Option ℕ) → IfSome found (IsNextOne row from) → IfNone found (HasNoneFrom row from) → IsNextFrom row from found
cursor_is row from None next none = none
cursor_is row from (Some k) next none = next

module _ (row : List Bool) where
  abbrev bit : ℕ → Bool
  bit k = slice_index_or row k false

  -- a place of a one isn't among places without
  no_sooner : (from place k : ℕ) → from ≤ k → bit k ≡ true → ((j : ℕ) → from ≤ j → j < place → bit j ≡ false) → place ≤ k
  no_sooner from place k on is none = elim (cases_lt k place) [
    | inl lt ↦ absurd (both_ways _ (none k on lt) is)
    | inr le ↦ le
  ]

  cursor_on : (from place : ℕ) (next : Option ℕ) → from ≤ place → ((j : ℕ) → from ≤ j → j < place → bit j ≡ false) → IsNextFrom row from next → IsNextFrom row place next
  cursor_on from place None le none has = λ k low. has k (omega arith)
  cursor_on from place (Some k) le none next = record {
    on = no_sooner from place k next.on next.is none;
    is = next.is;
    first = λ j low high. next.first j (omega arith) high;
  }

  -- past places that are no ones a prefix stays as it is
  pub stays : (from place before : ℕ) (next : Option ℕ) → from ≤ place → ((j : ℕ) → from ≤ j → j < place → bit j ≡ false)
      → IsCursorAt row from before next → IsCursorAt row place before next
  stays from place before next le none at = record {
    cursor = cursor_on from place next le none at.cursor;
    passed = record {
      within = at.passed.within;
      before = λ k lt. let low = at.passed.before k lt in omega arith;
      after = λ k late lt. no_sooner from place (slice_index_or (ones_of row) k 0) (at.passed.after k late lt) (one_at row k lt) none;
    };
  }

  pub only_there : (place : ℕ) → bit place ≡ false → (k : ℕ) → place ≤ k → k < place + 1 → bit k ≡ false
  only_there place isnt k low high = let same : k ≡ place = omega arith in ap bit same ∙ isnt

  -- a prefix tells whether the place is a one from which it goes on
  pub tells : (place : ℕ) (next : Option ℕ) → IsNextFrom row place next → is_at next place ≡ bit place
  tells place None none = sym (none place (omega arith))
  tells place (Some k) next = elim (cases_eq k place) [
    | inl e ↦ eq-eqb k place e ∙ sym (subst (λ j. bit j ≡ true) e next.is)
    | inr other ↦ ne_eqb k place other ∙ sym (next.first place (omega arith) (let on = next.on in omega arith))
  ]

  module _ (place before : ℕ) (passed : AreBefore (ones_of row) place before) (is : bit place ≡ true) where
    index_is : (i : ℕ) → i < length (ones_of row) → slice_index_or (ones_of row) i 0 ≡ place → i ≡ before
    index_is i inside same = elim (cases_order i before) [
      | inl e ↦ e
      | inr (inl lt) ↦ let low = passed.before i lt in absurd (omega arith)
      | inr (inr gt) ↦
          let low = passed.after before (omega arith) (omega arith) in
          let later = ones_rise row before i 0 gt inside in
          absurd (omega arith)
    ]

    stands : (before < length (ones_of row)) × (slice_index_or (ones_of row) before 0 ≡ place)
    stands =
        let there = listed row place is in
        let at = index_is there.0 there.1 there.2 in
        (subst (λ i. i < length (ones_of row)) at there.1, subst (λ i. slice_index_or (ones_of row) i 0 ≡ place) at there.2)

    -- past a one there is one more before
    pub one_passed : AreBefore (ones_of row) (place + 1) (before + 1)
    one_passed =
        let inside = stands.0 in
        let same = stands.1 in
        record {
          within = omega arith;
          before = λ k lt. elim (cases_eq k before) [
            | inl e ↦ let here = ap (λ i. slice_index_or (ones_of row) i 0) e in omega arith
            | inr other ↦ let low = passed.before k (omega arith) in omega arith
          ];
          after = λ k late lt. let later = ones_rise row before k 0 (omega arith) lt in omega arith;
        }

    pub few_passed : before < length row
    few_passed = let inside = stands.0 in let few = few_ones row in omega arith

-- the lower of two cursors is the first place at which one of both rows has a one
pub record IsLowest (v w : List Bool) (start place : ℕ) : Type 0 where
  pub on : start ≤ place
  pub within : length v ≡ length w → place < length v
  pub left : (j : ℕ) → start ≤ j → j < place → slice_index_or v j false ≡ false
  pub right : (j : ℕ) → start ≤ j → j < place → slice_index_or w j false ≡ false

module _ (v w : List Bool) (start : ℕ) where
  lowest_of : (one other : Option ℕ) → IsNextFrom v start one → IsNextFrom w start other → IfSome (lower_of one other) (IsLowest v w start)
  lowest_of None None left right = tt
  lowest_of None (Some b) left right = record {
    on = right.on;
    within = λ same. let lt = one_within w b right.is in omega arith;
    left = λ j low high. left j low;
    right = right.first;
  }
  lowest_of (Some a) None left right = record {
    on = left.on;
    within = λ same. one_within v a left.is;
    left = left.first;
    right = λ j low high. right j low;
  }
  lowest_of (Some a) (Some b) left right = record {
    on = let low = left.on in let low' = right.on in omega arith;
    within = λ same. let lt = one_within v a left.is in omega arith;
    left = λ j low high. left.first j low (omega arith);
    right = λ j low high. right.first j low (omega arith);
  }

  pub lowest : (one other : Option ℕ) (place : ℕ) → IsNextFrom v start one → IsNextFrom w start other → lower_of one other ≡ Some place → IsLowest v w start place
  lowest one other place left right is = subst (λ found. IfSome found (IsLowest v w start)) is (lowest_of one other left right)

  -- where there is none both rows are gone through
  pub none_left : (one other : Option ℕ) → IsNextFrom v start one → IsNextFrom w start other → lower_of one other ≡ None → DifferNowhereFrom v w start
  none_left None None left right is = λ k low. both_false v w k (left k low) (right k low)
  none_left None (Some b) left right is = absurd (cc)
  none_left (Some a) None left right is = absurd (cc)
  none_left (Some a) (Some b) left right is = absurd (cc)

-- whether two rows differ at a place, by what was said of both
pub differs_by : (v w : List Bool) (place : ℕ) (is too : Bool) → is ≡ slice_index_or v place false → too ≡ slice_index_or w place false
    → differs v w place ≡ not (beq is too)
differs_by v w place is too e e' = rw (e, e') refl

module _ (v w : List Bool) (from start place : ℕ) (le : from ≤ start) (none : (k : ℕ) → from ≤ k → k < start → differs v w k ≡ false) (low : IsLowest v w start place) where
  none_before : (k : ℕ) → from ≤ k → k < place → differs v w k ≡ false
  none_before k on lt = elim (cases_lt k start) [
    | inl early ↦ none k on early
    | inr late ↦ both_false v w k (low.left k late lt) (low.right k late lt)
  ]

  -- where one of both has a one they differ
  pub differ_there : differs v w place ≡ true → IsNextDiffering v w from place
  differ_there is = record {
    on = let on = low.on in omega arith;
    is = is;
    first = none_before;
  }

  -- and where both have one they don't
  pub none_through : differs v w place ≡ false → (k : ℕ) → from ≤ k → k < place + 1 → differs v w k ≡ false
  none_through isnt k on lt = elim (cases_eq k place) [
    | inl e ↦ subst (λ j. differs v w j ≡ false) (sym e) isnt
    | inr other ↦ none_before k on (omega arith)
  ]

-- what holds up to a place and from it on holds throughout
pub none_further : (v w : List Bool) (from start : ℕ) → ((k : ℕ) → from ≤ k → k < start → differs v w k ≡ false) → DifferNowhereFrom v w start → DifferNowhereFrom v w from
none_further v w from start none rest k low = elim (cases_lt k start) [
  | inl early ↦ none k low early
  | inr late ↦ rest k late
]

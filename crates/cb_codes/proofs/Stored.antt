-- The columns of a code that are stored: each is the next one after those before it.
use Rattle.std.proofs.Common.{◌≡◌, ℕ, zero, suc, ◌+◌, ◌-◌, ◌<◌, ◌≤◌, List, Bool, length, get_or, sym, ap, subst, inl, inr, arith}
use Rattle.std.proofs.lemmas.Bool.{cases_eq}
use Rattle.cb_bits.specs.Bits.{IsNextOne, HasNoneFrom}
use Rattle.cb_compact.specs.Compact.{ones_of, AreBefore}
use Rattle.cb_compact.proofs.Ones.{places_rise, next_is, none_is}
use Rattle.cb_coding.specs.Distance.{code_at}
use Rattle.cb_codes.specs.Holders.{HaveEntries}
use Rattle.cb_codes.proofs.ByColumn.{AreCountedBelow, AreListedBelow, as_few, has_entry, next_there, none_there, at_end, starts_rise}

-- after the columns before an index
abbrev pub after_columns : List ℕ → ℕ → ℕ
after_columns columns zero = 0
after_columns columns (suc i) = get_or columns i 0 + 1

module _ (code : List Bool) (columns : List ℕ) (are : columns ≡ ones_of code) where
  are_before : (i : ℕ) → i ≤ length columns → AreBefore columns (after_columns columns i) i
  are_before zero le = record { within = le; before = λ k lt. absurd (omega arith); after = λ k low lt. omega arith }
  are_before (suc i) le = record {
    within = le;
    before = λ k lt. elim (cases_eq k i) [
      | inl e ↦ let same = ap (λ j. get_or columns j 0) e in omega arith
      | inr other ↦ let low = places_rise columns code are k i 0 (omega arith) (omega arith) in omega arith
    ];
    after = λ k low lt. let less = places_rise columns code are i k 0 (omega arith) lt in omega arith;
  }

  pub next_stored : (i : ℕ) → i < length columns → IsNextOne code (after_columns columns i) (get_or columns i 0)
  next_stored i lt = next_is columns code are (after_columns columns i) i (are_before i (omega arith)) lt

  pub none_stored : (i : ℕ) → i ≤ length columns → length columns ≤ i → HasNoneFrom code (after_columns columns i)
  none_stored i le end = none_is columns code are (after_columns columns i) i (are_before i le) end

after_next : (columns : List ℕ) (i : ℕ) → after_columns columns (i + 1) ≡ get_or columns i 0 + 1
after_next columns i = ap (after_columns columns) (let e : i + 1 ≡ suc i = omega arith in e)

-- the same after the next one
pub counted_after : (codes : List (List Bool)) (n : ℕ) (columns : List ℕ) (i : ℕ) (counts : List ℕ) → AreCountedBelow codes n (get_or columns i 0 + 1) counts
    → AreCountedBelow codes n (after_columns columns (i + 1)) counts
counted_after codes n columns i counts are = subst (λ from. AreCountedBelow codes n from counts) (sym (after_next columns i)) are

pub listed_after : (codes : List (List Bool)) (n : ℕ) (columns : List ℕ) (i : ℕ) (nexts places : List ℕ) → AreListedBelow codes n (get_or columns i 0 + 1) nexts places
    → AreListedBelow codes n (after_columns columns (i + 1)) nexts places
listed_after codes n columns i nexts places are = subst (λ from. AreListedBelow codes n from nexts places) (sym (after_next columns i)) are

-- the columns of the code that was read
module _ (codes : List (List Bool)) (code : List Bool) (n : ℕ) (within : n < length codes) (is : code ≡ get_or codes n code) (columns : List ℕ) (are : columns ≡ ones_of code)
    (i : ℕ) where
  pub none_left : i ≤ length columns → length columns ≤ i → HasNoneFrom (code_at codes n) (after_columns columns i)
  none_left le end = none_there codes code n within is (after_columns columns i) (none_stored code columns are i le end)

  module _ (lt : i < length columns) where
    abbrev column : ℕ
    column = get_or columns i 0

    pub next_read : IsNextOne (code_at codes n) (after_columns columns i) (get_or columns i 0)
    next_read = next_there codes code n within is (after_columns columns i) column (next_stored code columns are i lt)

    pub entry_read : (entries now : List ℕ) → HaveEntries entries codes → length now ≡ length entries → get_or columns i 0 + 1 < length now
    entry_read entries now have same =
        let entry = has_entry codes code n within is entries have (after_columns columns i) column (next_stored code columns are i lt) in
        omega arith

    pub count_is_low : (counts : List ℕ) → AreCountedBelow codes n (after_columns columns i) counts → get_or columns i 0 + 1 < length counts
        → get_or counts (get_or columns i 0 + 1) 0 ≤ n
    count_is_low counts counted entry =
        let next = next_read in
        let was = counted.rest column entry next.on in
        let few = as_few codes n column in
        omega arith

    pub place_read : (nexts places : List ℕ) → AreListedBelow codes n (after_columns columns i) nexts places → get_or columns i 0 + 1 < length nexts
        → get_or nexts (get_or columns i 0 + 1) 0 < length places
    place_read nexts places listed entry =
        let next = next_read in
        let low = at_end codes n column nexts places within next.is entry (listed.rest column entry next.on) in
        let last = length nexts - 1 in
        let rise = starts_rise codes (column + 1) (last - (column + 1)) last (omega arith) in
        let room = listed.end last (omega arith) in
        omega arith

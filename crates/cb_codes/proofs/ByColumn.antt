-- Lists of the codes that have a column, one after the other: how long they are, where they start, and that a position that is added to
-- one of them is in no other.
use Rattle.std.proofs.Common.{◌≡◌, ◌≢◌, ℕ, zero, suc, ◌+◌, ◌-◌, ◌<◌, ◌≤◌, List, [], ◌∷◌, ◌++◌, length, length-drop, length-take-le, set, get_or, take, drop, Bool, true, false, refl, sym, ap, subst, ◌∙◌, inl, inr, arith}
use Rattle.std.specs.List.{sum_by}
use Rattle.std.proofs.Math.Seq.{take-append_seam}
use Rattle.std.proofs.lemmas.Bool.{cases_lt, cases_Bool, both_ways}
use Rattle.std.proofs.lemmas.List.{get_or_past, get_or_append_left, get_or-append_right, get_or-set_same, get_or-set_other, length_push, length-set, get_or_default, get_or-take, get_or-drop}
use Rattle.std.proofs.lemmas.Grind.{same_number_lists}
use Rattle.std.proofs.lemmas.List.Elements.{All-get_or}
use Rattle.std.proofs.lemmas.List.Sums.{sum_by-append}
use Rattle.cb_bits.specs.Bits.{IsNextOne, HasNoneFrom}
use Rattle.cb_coding.specs.Distance.{bit, code_at, all_columns}
use Rattle.cb_coding.proofs.Distances.{all_columns_more}
use Rattle.cb_codes.specs.declared.holders.Holders.{Holders}
use Rattle.cb_codes.specs.Holders.{first_holders, holders_of, holders_start, IsHolderList, HaveEntries, AreHolders, AreHoldersOrNone, AreCounted, AreStarts, AreHolderLists}
use Rattle.cb_codes.proofs.Passing.{passing_grow, one_more_passes, one_more_fails}

-- what a code has is below its width
pub had_within : (code : List Bool) (column : ℕ) → bit code column ≡ true → column < length code
had_within code column has = elim (cases_lt column (length code)) [
  | inl lt ↦ lt
  | inr past ↦ absurd (both_ways _ (get_or_past code column false past) has)
]

module _ (codes : List (List Bool)) where
  abbrev has : ℕ → ℕ → Bool
  has column i = bit (code_at codes i) column

  -- one code further
  has_one_more : (n column : ℕ) → bit (code_at codes n) column ≡ true → first_holders codes (n + 1) column ≡ first_holders codes n column ++ n ∷ []
  has_one_more n column is = sym (one_more_passes (has column) n is)

  has_no_more : (n column : ℕ) → bit (code_at codes n) column ≡ false → first_holders codes (n + 1) column ≡ first_holders codes n column
  has_no_more n column isnt = sym (one_more_fails (has column) n isnt)

  one_longer : (n column : ℕ) → bit (code_at codes n) column ≡ true → length (first_holders codes (n + 1) column) ≡ length (first_holders codes n column) + 1
  one_longer n column is = ap length (has_one_more n column is) ∙ length_push (first_holders codes n column) n

  -- the first ones are no more than all
  no_longer : (n column : ℕ) → n ≤ length codes → length (first_holders codes n column) ≤ length (holders_of codes column)
  no_longer n column le = passing_grow (has column) n (length codes - n) (length codes) (omega arith)

  -- and fewer where one is left
  pub has_room : (n column : ℕ) → n < length codes → bit (code_at codes n) column ≡ true
      → length (first_holders codes n column) < length (holders_of codes column)
  has_room n column lt is =
      let more = one_longer n column is in
      let all = no_longer (n + 1) column (omega arith) in
      omega arith

  -- no more than there are codes
  pub as_few : (n column : ℕ) → length (first_holders codes n column) ≤ n
  as_few zero column = let none : length (first_holders codes 0 column) ≡ 0 = refl in omega arith
  as_few (suc n) column =
      let next : suc n ≡ n + 1 = omega arith in
      let same = ap (λ k. length (first_holders codes k column)) next in
      let before = as_few n column in
      elim (cases_Bool (bit (code_at codes n) column)) [
        | inl is ↦ let more = one_longer n column is in omega arith
        | inr isnt ↦ let more = ap length (has_no_more n column isnt) in omega arith
      ]

  -- the next list starts where this one ends
  pub next_start : (column : ℕ) → holders_start codes (column + 1) ≡ holders_start codes column + length (holders_of codes column)
  next_start column =
      let long : ℕ → ℕ = λ k. length (holders_of codes k) in
      let split = ap (sum_by long) (all_columns_more column) ∙ sum_by-append long (all_columns column) (column ∷ []) in
      omega (arith, split)

  pub starts_rise : (low n high : ℕ) → low + n ≡ high → holders_start codes low ≤ holders_start codes high
  starts_rise low zero high e = let same = ap (holders_start codes) (let is : low ≡ high = omega arith in is) in omega arith
  starts_rise low (suc n) high e =
      let is : high ≡ low + n + 1 = omega arith in
      let same = ap (holders_start codes) is in
      let last = next_start (low + n) in
      let before = starts_rise low n (low + n) refl in
      omega arith

  -- code n is counted for the columns below one
  pub record AreCountedBelow (n from : ℕ) (counts : List ℕ) : Type 0 where
    pub first : get_or counts 0 0 ≡ 0
    pub below : (column : ℕ) → column + 1 < length counts → column < from → get_or counts (column + 1) 0 ≡ length (first_holders codes (n + 1) column)
    pub rest : (column : ℕ) → column + 1 < length counts → from ≤ column → get_or counts (column + 1) 0 ≡ length (first_holders codes n column)

  pub begin_count : (n : ℕ) (counts : List ℕ) → AreCounted codes n counts → AreCountedBelow n 0 counts
  begin_count n counts are = record { first = are.first; below = λ column lt below. absurd (omega arith); rest = λ column lt le. are.each column lt }

  pub count_column : (n from column : ℕ) (counts : List ℕ) → AreCountedBelow n from counts → IsNextOne (code_at codes n) from column
      → column + 1 < length counts → AreCountedBelow n (column + 1) (set counts (column + 1) (get_or counts (column + 1) 0 + 1))
  count_column n from column counts are next within =
      let new = get_or counts (column + 1) 0 + 1 in
      let on = next.on in
      let long = length-set counts (column + 1) new in
      record {
        first = get_or-set_other counts (column + 1) 0 new 0 (omega arith) ∙ are.first;
        below = λ k lt below. elim (cases_lt k column) [
          | inl low ↦ get_or-set_other counts (column + 1) (k + 1) new 0 (omega arith) ∙ elim (cases_lt k from) [
            | inl before ↦ are.below k (omega arith) before
            | inr late ↦ are.rest k (omega arith) late ∙ sym (ap length (has_no_more n k (next.first k late low)))
          ]
          | inr high ↦
              let here : k ≡ column = omega arith in
              let was = are.rest column within on in
              ap (λ j. get_or (set counts (column + 1) new) (j + 1) 0) here ∙ get_or-set_same counts (column + 1) new 0 within
              ∙ ap (λ m. m + 1) was ∙ sym (one_longer n column next.is) ∙ sym (ap (λ j. length (first_holders codes (n + 1) j)) here)
        ];
        rest = λ k lt le. get_or-set_other counts (column + 1) (k + 1) new 0 (omega arith) ∙ are.rest k (omega arith) (omega arith);
      }

  pub end_count : (n from : ℕ) (counts : List ℕ) → AreCountedBelow n from counts → HasNoneFrom (code_at codes n) from → AreCounted codes (n + 1) counts
  end_count n from counts are none = record {
    first = are.first;
    each = λ k lt. elim (cases_lt k from) [
      | inl before ↦ are.below k lt before
      | inr late ↦ are.rest k lt late ∙ sym (ap length (has_no_more n k (none k late)))
    ];
  }

  -- the lists of the columns before this entry have their starts, and the others their lengths
  pub record AreAddedUp (next total : ℕ) (starts : List ℕ) : Type 0 where
    pub first : get_or starts 0 0 ≡ 0
    pub before : (column : ℕ) → column + 1 < next → column + 1 < length starts → get_or starts (column + 1) 0 ≡ holders_start codes column
    pub rest : (column : ℕ) → next ≤ column + 1 → column + 1 < length starts → get_or starts (column + 1) 0 ≡ length (holders_of codes column)
    pub end : (column : ℕ) → column + 1 ≡ next → total ≡ holders_start codes column

  pub begin_sum : (counts : List ℕ) → AreCounted codes (length codes) counts → AreAddedUp 1 0 counts
  begin_sum counts are = record {
    first = are.first;
    before = λ column lt within. absurd (omega arith);
    rest = λ column le lt. are.each column lt;
    end = λ column e. let is : column ≡ 0 = omega arith in sym (ap (holders_start codes) is);
  }

  pub add_next : (next total more : ℕ) (starts : List ℕ) → AreAddedUp next total starts → 1 ≤ next → next < length starts → more ≡ total + get_or starts next 0
      → AreAddedUp (next + 1) more (set starts next total)
  add_next next total more starts are some within is =
      let long = length-set starts next total in
      let prior : next ≡ next - 1 + 1 = omega arith in
      let at = are.end (next - 1) (sym prior) in
      record {
        first = get_or-set_other starts next 0 total 0 (omega arith) ∙ are.first;
        before = λ k lt low. elim (cases_lt (k + 1) next) [
          | inl below ↦ get_or-set_other starts next (k + 1) total 0 (omega arith) ∙ are.before k below (omega arith)
          | inr high ↦
              let here : k + 1 ≡ next = omega arith in
              ap (λ j. get_or (set starts next total) j 0) here ∙ get_or-set_same starts next total 0 within ∙ are.end k here
        ];
        rest = λ k le lt. get_or-set_other starts next (k + 1) total 0 (omega arith) ∙ are.rest k (omega arith) (omega arith);
        end = λ k e.
            let here : k ≡ next - 1 + 1 = omega arith in
            let many = are.rest (next - 1) (omega arith) (omega arith) in
            let counted = ap (λ j. get_or starts j 0) prior ∙ many in
            let start = next_start (next - 1) in
            let same = ap (holders_start codes) here in
            omega arith;
      }

  pub end_sum : (next total : ℕ) (starts : List ℕ) → AreAddedUp next total starts → 1 ≤ next → length starts ≤ next → (1 ≤ length starts → next ≤ length starts)
      → AreStarts codes total starts
  end_sum next total starts are some past within = record {
    first = are.first;
    each = λ column lt. are.before column (omega arith) lt;
    end = λ column e. are.end column (let le = within (omega arith) in omega arith);
  }

  -- the list of a column has the first n codes, and its entry says where the next one goes
  pub record IsListedTo (n column : ℕ) (nexts places : List ℕ) : Type 0 where
    pub next : get_or nexts (column + 1) 0 ≡ holders_start codes column + length (first_holders codes n column)
    pub each : IsHolderList codes n column places

  -- code n is in the lists of the columns below one
  pub record AreListedBelow (n from : ℕ) (nexts places : List ℕ) : Type 0 where
    pub first : get_or nexts 0 0 ≡ 0
    pub end : (column : ℕ) → column + 1 ≡ length nexts → holders_start codes column ≤ length places
    pub below : (column : ℕ) → column + 1 < length nexts → column < from → IsListedTo (n + 1) column nexts places
    pub rest : (column : ℕ) → column + 1 < length nexts → from ≤ column → IsListedTo n column nexts places

  pub begin_list : (n : ℕ) (nexts places : List ℕ) → AreHolderLists codes n nexts places → AreListedBelow n 0 nexts places
  begin_list n nexts places are = record {
    first = are.first;
    end = are.end;
    below = λ column lt below. absurd (omega arith);
    rest = λ column lt le. record { next = are.next column lt; each = are.each column lt };
  }

  -- a code that lacks a column isn't in its list
  not_listed : (n column : ℕ) (nexts places : List ℕ) → bit (code_at codes n) column ≡ false → IsListedTo n column nexts places → IsListedTo (n + 1) column nexts places
  not_listed n column nexts places isnt are =
      let same = has_no_more n column isnt in
      record {
        next = are.next ∙ ap (λ ks. holders_start codes column + length ks) (sym same);
        each = λ k lt. are.each k (let size = ap length same in omega arith) ∙ ap (λ ks. get_or ks k 0) (sym same);
      }

  pub end_list : (n from : ℕ) (nexts places : List ℕ) → AreListedBelow n from nexts places → HasNoneFrom (code_at codes n) from → AreHolderLists codes (n + 1) nexts places
  end_list n from nexts places are none = record { first = are.first; end = are.end; next = λ column lt. (listed column lt).next; each = λ column lt. (listed column lt).each }
    where
      listed : (column : ℕ) → column + 1 < length nexts → IsListedTo (n + 1) column nexts places
      listed column lt = elim (cases_lt column from) [
        | inl before ↦ are.below column lt before
        | inr late ↦ not_listed n column nexts places (none column late) (are.rest column lt late)
      ]

  module _ (n column : ℕ) (nexts places : List ℕ) (early : n < length codes) (is : bit (code_at codes n) column ≡ true) (within : column + 1 < length nexts)
      (listed : IsListedTo n column nexts places) where
    abbrev at : ℕ
    at = get_or nexts (column + 1) 0

    abbrev nexts_now : List ℕ
    nexts_now = set nexts (column + 1) (at + 1)

    abbrev places_now : List ℕ
    places_now = set places at n

    -- the position goes into the list of its column
    pub at_end : at < holders_start codes (column + 1)
    at_end = let next = listed.next in let room = has_room n column early is in let start = next_start column in omega arith

    listed_here : at < length places → IsListedTo (n + 1) column nexts_now places_now
    listed_here there =
        let next = listed.next in
        let more = has_one_more n column is in
        let longer = one_longer n column is in
        record {
          next = get_or-set_same nexts (column + 1) (at + 1) 0 within ∙ (let e : at + 1 ≡ holders_start codes column + length (first_holders codes (n + 1) column) = omega arith in e);
          each = λ k lt. elim (cases_lt k (length (first_holders codes n column))) [
            | inl before ↦
                get_or-set_other places at (holders_start codes column + k) n 0 (omega arith) ∙ listed.each k before
                ∙ sym (ap (λ ks. get_or ks k 0) more ∙ get_or_append_left (first_holders codes n column) (n ∷ []) 0 k before)
            | inr late ↦
                let last : holders_start codes column + k ≡ at = omega arith in
                let none : k - length (first_holders codes n column) ≡ 0 = omega arith in
                ap (λ j. get_or places_now j 0) last ∙ get_or-set_same places at n 0 there
                ∙ sym (ap (λ ks. get_or ks k 0) more ∙ get_or-append_right (first_holders codes n column) (n ∷ []) (length (first_holders codes n column)) k 0 refl late
                ∙ ap (λ j. get_or (n ∷ []) j 0) none)
          ];
        }

    -- and into no other
    listed_there : (m other : ℕ) → m ≤ length codes → other ≢ column → IsListedTo m other nexts places → IsListedTo m other nexts_now places_now
    listed_there m other le apart are =
        record {
          next = get_or-set_other nexts (column + 1) (other + 1) (at + 1) 0 (omega arith) ∙ are.next;
          each = λ k lt. get_or-set_other places at (holders_start codes other + k) n 0 (elsewhere k lt) ∙ are.each k lt;
        }
      where
        elsewhere : (k : ℕ) → k < length (first_holders codes m other) → holders_start codes other + k ≢ at
        elsewhere k lt =
            let next = listed.next in
            let end = at_end in
            let all = no_longer m other le in
            let after = next_start other in
            elim (cases_lt other column) [
              | inl low ↦ let later = starts_rise (other + 1) (column - (other + 1)) column (omega arith) in λ e. omega arith
              | inr high ↦ let later = starts_rise (column + 1) (other - (column + 1)) other (omega arith) in λ e. omega arith
            ]

    pub list_column : (from : ℕ) → IsNextOne (code_at codes n) from column → at < length places → AreListedBelow n from nexts places
        → AreListedBelow n (column + 1) nexts_now places_now
    list_column from next there are =
        let on = next.on in
        let long = length-set nexts (column + 1) (at + 1) in
        let wide = length-set places at n in
        record {
          first = get_or-set_other nexts (column + 1) 0 (at + 1) 0 (omega arith) ∙ are.first;
          end = λ k e. let le = are.end k (omega arith) in omega arith;
          below = λ k lt below. elim (cases_lt k column) [
            | inl low ↦ listed_there (n + 1) k (omega arith) (omega arith) (elim (cases_lt k from) [
              | inl before ↦ are.below k (omega arith) before
              | inr late ↦ not_listed n k nexts places (next.first k late low) (are.rest k (omega arith) late)
            ])
            | inr high ↦ let here : column ≡ k = omega arith in subst (λ j. IsListedTo (n + 1) j nexts_now places_now) here (listed_here there)
          ];
          rest = λ k lt le. listed_there n k (omega arith) (omega arith) (are.rest k (omega arith) (omega arith));
        }

-- before the first code no list has a position
pub none_listed : (codes : List (List Bool)) (total : ℕ) (starts places : List ℕ) → AreStarts codes total starts → total ≤ length places → AreHolderLists codes 0 starts places
none_listed codes total starts places are fits = record {
  first = are.first;
  end = λ column e. let last = are.end column e in omega arith;
  next = λ column lt. are.each column lt ∙ (let e : holders_start codes column ≡ holders_start codes column + length (first_holders codes 0 column) = omega arith in e);
  each = λ column lt k low. absurd (let none : length (first_holders codes 0 column) ≡ 0 = refl in omega arith);
}

-- and after the last one the entries say where the lists start
pub all_listed : (codes : List (List Bool)) (width : ℕ) (holders : Holders) (nexts places : List ℕ) → holders.starts.items ≡ nexts → holders.places.items ≡ places
    → length nexts ≡ width + 1 → AreHolderLists codes (length codes) nexts places → AreHolders width codes holders
all_listed codes width holders nexts places entries lists long are = record {
  all = ap length entries ∙ long;
  starts = λ column le. ap (λ ns. get_or ns column 0) entries ∙ elim (cases_lt 0 column) [
    | inl some ↦
        let prior : column ≡ column - 1 + 1 = omega arith in
        ap (λ k. get_or nexts k 0) prior ∙ are.next (column - 1) (omega arith) ∙ sym (next_start codes (column - 1)) ∙ ap (holders_start codes) (sym prior)
    | inr none ↦ let is : column ≡ 0 = omega arith in ap (λ k. get_or nexts k 0) is ∙ are.first ∙ ap (holders_start codes) (sym is)
  ];
  end = let end = are.end width (sym long) in let same = ap length lists in omega arith;
  each = λ column lt. subst (IsHolderList codes (length codes) column) (sym lists) (are.each column (omega arith));
}

-- what is written back where as much was
pub written_back : (n : ℕ) (now before : List ℕ) → length now ≡ n → take n (now ++ before) ≡ now
written_back n now before e = ap (λ k. take k (now ++ before)) (sym e) ∙ take-append_seam now before

-- where there are entries there are lists
pub are_there : (codes : List (List Bool)) (width : ℕ) (holders : Holders) → AreHoldersOrNone width codes holders → 0 < length holders.starts.items
    → AreHolders width codes holders
are_there codes width holders (inl none) some = absurd (let size = ap length none in omega arith)
are_there codes width holders (inr are) some = are

-- where the list of a column is, it has the codes
module _ (codes : List (List Bool)) (width : ℕ) (holders : Holders) (are : AreHolders width codes holders) (column : ℕ) (low : column < width) where
  abbrev starts : List ℕ
  starts = holders.starts.items

  abbrev places : List ℕ
  places = holders.places.items

  pub entry_after : column + 1 < length starts
  entry_after = let all = are.all in omega arith

  pub list_end : get_or starts column 0 + length (holders_of codes column) ≡ get_or starts (column + 1) 0
  list_end =
      let start = are.starts column (omega arith) in
      let end = are.starts (column + 1) (omega arith) in
      let next = next_start codes column in
      omega arith

  pub list_within : get_or starts (column + 1) 0 ≤ length places
  list_within =
      let end = are.starts (column + 1) (omega arith) in
      let rise = starts_rise codes (column + 1) (width - (column + 1)) width (omega arith) in
      let last = are.end in
      omega arith

  pub list_is : (n : ℕ) → get_or starts column 0 + n ≡ get_or starts (column + 1) 0 → take n (drop (get_or starts column 0) places) ≡ holders_of codes column
  list_is n e =
      let end = list_end in
      let size : n ≡ length (holders_of codes column) = omega arith in
      let within = list_within in
      let dropped = length-drop (get_or starts column 0) places in
      let long : length (take n (drop (get_or starts column 0) places)) ≡ n = length-take-le n (drop (get_or starts column 0) places) (omega arith) in
      same_number_lists (take n (drop (get_or starts column 0) places)) (holders_of codes column) (long ∙ size) (λ k lt.
      get_or-take n (drop (get_or starts column 0) places) k 0 (omega arith) ∙ get_or-drop (get_or starts column 0) places k 0
      ∙ ap (λ j. get_or places (j + k) 0) (are.starts column (omega arith)) ∙ are.each column low k (omega arith))

-- the code that was read, and the entries that it has
module _ (codes : List (List Bool)) (code : List Bool) (n : ℕ) (within : n < length codes) (is : code ≡ get_or codes n code) where
  code_is : code ≡ code_at codes n
  code_is = is ∙ get_or_default codes n code [] within

  pub next_there : (from column : ℕ) → IsNextOne code from column → IsNextOne (code_at codes n) from column
  next_there from column next = subst (λ v. IsNextOne v from column) code_is next

  pub none_there : (from : ℕ) → HasNoneFrom code from → HasNoneFrom (code_at codes n) from
  none_there from none = subst (λ v. HasNoneFrom v from) code_is none

  pub has_entry : (entries : List ℕ) → HaveEntries entries codes → (from column : ℕ) → IsNextOne code from column → column + 1 < length entries
  has_entry entries have from column next =
      let wide : length (get_or codes n code) + 1 ≡ length entries = All-get_or (λ v. length v + 1 ≡ length entries) codes n code within have in
      let same = ap length is in
      let lt = had_within code column next.is in
      omega arith

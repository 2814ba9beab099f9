-- Columns that are forced, and what they tell apart.
use Rattle.std.proofs.Common.{◌≡◌, ℕ, ◌+◌, ◌<◌, ◌≤◌, List, [], ◌∷◌, length, slice_get, slice_set, Some, Bool, true, false, not, cond, nat_lt, refl, sym, ap, subst, ◌∙◌, inl, inr, arith}
use Rattle.std.specs.List.{Contains, count_by, filter}
use Rattle.std.proofs.lemmas.Bool.{cases_lt, cases_eq, cases_Bool, lt-ltb, le-ltb, ltb-true, ltb-false, not-true, both_ways}
use Rattle.std.proofs.lemmas.List.Filters.{sum_by-filter_both}
use Rattle.std.proofs.lemmas.List.Kept.{AllPairs-filter}
use Rattle.std.proofs.lemmas.List.Sums.{sum_by-cons}
use Rattle.std.proofs.lemmas.List.{get_or_past}
use Rattle.cb_coding.specs.Distance.{HaveWidth, differ, bit, all_columns, code_at, apart}
use Rattle.cb_coding.proofs.Distances.{Rising, all_columns_rise, in_all_columns, below_from_all_columns, count_of_fewer, triangle}
use Rattle.cb_coding.proofs.BookLaws.{kept_by_filter, was_in_filtered}
use Rattle.cb_reduce.specs.Pairs.{DifferAt}
use Rattle.cb_reduce.specs.Places.{kept_of}
use Rattle.cb_reduce.specs.Moves.{SomeAreClose, IsMarked}
use Rattle.cb_coding.specs.Pairs.{IsPair}
use Rattle.cb_reduce.specs.Forced.{IsForced, Forces, MarksOnly, MarksApart}
use Rattle.cb_reduce.proofs.Places.{code_at_is}
use Rattle.cb_reduce.proofs.Prefixes.{prefix, prefix_more, prefix_rises, step_where, same_place}
use Rattle.cb_reduce.proofs.Kept.{in_kept, was_kept, kept_rise, set_marks}

abbrev once : Bool → ℕ
once b = cond b 1 0

-- what a filter keeps counts as much as all, where it keeps all that pass the test
pub count_of_kept : (p q : ℕ → Bool) (xs : List ℕ) → ((k : ℕ) → p k ≡ true → q k ≡ true) → count_by p xs ≤ count_by p (filter q xs)
count_of_kept p q [] keeps = omega arith
count_of_kept p q (x ∷ xs) keeps =
    let rest = count_of_kept p q xs keeps in
    let all = sum_by-cons (λ k. once (p k)) x xs in
    elim (q x) as (λ b. q x ≡ b → count_by p (x ∷ xs) ≤ count_by p (cond b (x ∷ filter q xs) (filter q xs))) [
      | true ↦ λ is. let some = sum_by-cons (λ k. once (p k)) x (filter q xs) in omega arith
      | false ↦ λ isnt. elim (cases_Bool (p x)) [
        | inl passes ↦ absurd (both_ways _ isnt (keeps x passes))
        | inr fails ↦ let none : once (p x) ≡ 0 = ap once fails in omega arith
      ]
    ] refl

-- where all places that pass a test are among others, no fewer of these do
pub count_of_where : (p : ℕ → Bool) (xs ys : List ℕ) → Rising xs → Rising ys → ((k : ℕ) → Contains xs k → p k ≡ true → Contains ys k)
    → count_by p xs ≤ count_by p ys
count_of_where p xs ys rise rise' into =
    let kept = count_of_kept p p xs (λ k passes. passes) in
    let fewer = count_of_fewer p (filter p xs) ys (AllPairs-filter (λ x y. x < y) p xs rise) rise'
    (λ k there. let was = was_in_filtered p xs k there in into k was.0 was.1) in
    omega arith

module _ (codes : List (List Bool)) (i j : ℕ) where
  abbrev differ_at : ℕ → Bool
  differ_at k = differ (bit (code_at codes i) k) (bit (code_at codes j) k)

  -- a mask of all columns at which the two differ tells them apart as far as all columns do
  pub marked_suffice : (width : ℕ) (mask : List Bool) → length mask ≡ width → ((k : ℕ) → DifferAt k codes i j → bit mask k ≡ true)
      → apart (all_columns width) codes i j ≤ apart (kept_of mask) codes i j
  marked_suffice width mask long has =
      let same = ap (λ n. apart (all_columns n) codes i j) long in
      let all = count_of_kept differ_at (bit mask) (all_columns (length mask)) has in
      omega arith

  -- a mask that marks more tells them no less apart
  pub more_marked : (old new : List Bool) → length new ≡ length old → ((k : ℕ) → bit old k ≡ true → bit new k ≡ true)
      → apart (kept_of old) codes i j ≤ apart (kept_of new) codes i j
  more_marked old new long stay = count_of_fewer differ_at (kept_of old) (kept_of new) (kept_rise old) (kept_rise new)
      (λ k there. let was = was_kept old k there in in_kept new k (let lt = was.0 in omega arith) (stay k was.1))

  -- what forced columns tell apart, the columns before one and the kept ones do, where those from it on are kept
  pub forced_within : (m : ℕ) (forced kept : List Bool) → length kept ≡ length forced → ((k : ℕ) → m ≤ k → bit forced k ≡ true → bit kept k ≡ true)
      → apart (kept_of forced) codes i j ≤ prefix codes i j m + apart (kept_of kept) codes i j
  forced_within m forced kept long are =
      let early : ℕ → Bool = λ k. nat_lt k m in
      let late : ℕ → Bool = λ k. not (nat_lt k m) in
      let parts = sum_by-filter_both early late (λ k. refl) (λ k. once (differ_at k)) (kept_of forced) in
      let below = count_of_fewer differ_at (filter early (kept_of forced)) (all_columns m)
      (AllPairs-filter (λ x y. x < y) early (kept_of forced) (kept_rise forced)) (all_columns_rise m)
      (λ k there. in_all_columns m k (ltb-true k m (was_in_filtered early (kept_of forced) k there).1))
      in
      let above = count_of_fewer differ_at (filter late (kept_of forced)) (kept_of kept)
      (AllPairs-filter (λ x y. x < y) late (kept_of forced) (kept_rise forced)) (kept_rise kept)
      (λ k there.
      let was = was_in_filtered late (kept_of forced) k there in
      let marked = was_kept forced k was.0 in
      let from = ltb-false k m (not-true _ was.1) in
      in_kept kept k (let lt = marked.0 in omega arith) (are k (omega arith) marked.1))
      in
      omega arith

  -- the columns up to one and the kept ones after it are no more than all
  pub parts_of_all : (width m : ℕ) (kept : List Bool) → m < width → length kept ≡ width → ((k : ℕ) → k < m + 1 → bit kept k ≡ false)
      → prefix codes i j (m + 1) + apart (kept_of kept) codes i j ≤ apart (all_columns width) codes i j
  parts_of_all width m kept lt long none =
      let late : ℕ → Bool = λ k. nat_lt m k in
      let early : ℕ → Bool = λ k. not (nat_lt m k) in
      let parts = sum_by-filter_both late early (λ k. refl) (λ k. once (differ_at k)) (all_columns width) in
      let below = count_of_fewer differ_at (all_columns (m + 1)) (filter early (all_columns width)) (all_columns_rise (m + 1))
      (AllPairs-filter (λ x y. x < y) early (all_columns width) (all_columns_rise width))
      (λ k there.
      let low = below_from_all_columns (m + 1) k there in
      kept_by_filter early (all_columns width) k (in_all_columns width k (omega arith)) (let e = le-ltb m k (omega arith) in rw e refl))
      in
      let above = count_of_fewer differ_at (kept_of kept) (filter late (all_columns width)) (kept_rise kept)
      (AllPairs-filter (λ x y. x < y) late (all_columns width) (all_columns_rise width))
      (λ k there.
      let was = was_kept kept k there in
      let within = was.0 in
      elim (cases_lt m k) [
        | inl after ↦ kept_by_filter late (all_columns width) k (in_all_columns width k (omega arith)) (lt-ltb m k after)
        | inr before ↦ absurd (both_ways _ (none k (omega arith)) was.1)
      ])
      in
      omega arith

-- without a forced column two codes are too close
pub forced_is_close : (width : ℕ) (codes : List (List Bool)) (need : ℕ → ℕ → ℕ) (m : ℕ) (kept : List Bool) → m < width → length kept ≡ width
    → ((k : ℕ) → k < m + 1 → bit kept k ≡ false) → IsForced width codes need m → SomeAreClose codes (kept_of kept) need m
forced_is_close width codes need m kept lt long none is = record {
  first = is.first;
  second = is.second;
  is_pair = is.is_pair;
  close = λ safe.
      let parts = parts_of_all codes is.first is.second width m kept lt long none in
      let more = prefix_more codes is.first is.second m in
      let one = step_where codes is.first is.second m is.differ in
      let no_less = is.no_less in
      omega arith;
}

-- the columns of each code that the other lacks are marked
module _ (codes : List (List Bool)) (i j : ℕ) (v w : List Bool) (at : slice_get codes i ≡ Some v) (at' : slice_get codes j ≡ Some w)
    (old between new : List Bool) (one : MarksOnly v w old between) (two : MarksOnly w v between new) where
  differ_is : (c : ℕ) → differ (bit (code_at codes i) c) (bit (code_at codes j) c) ≡ differ (bit v c) (bit w c)
  differ_is c = rw (code_at_is codes i v at, code_at_is codes j w at') refl

  pub both_mark : MarksApart codes i j old new
  both_mark = record {
    long = two.long ∙ one.long;
    stay = λ c is. two.stay c (one.stay c is);
    come = λ c is. elim (two.come c is) [
      | inl before ↦ elim (one.come c before) [
        | inl old_one ↦ inl old_one
        | inr alone ↦ inr (differ_is c ∙ rw (alone.0, alone.1) refl)
      ]
      | inr alone ↦ inr (differ_is c ∙ rw (alone.0, alone.1) refl)
    ];
  }

  all_marked : (c : ℕ) → DifferAt c codes i j → bit new c ≡ true
  all_marked c differs =
      let here : differ (bit v c) (bit w c) ≡ true = sym (differ_is c) ∙ differs in
      elim (cases_Bool (bit v c)) [
        | inl has ↦ elim (cases_Bool (bit w c)) [
          | inl too ↦ let same : differ (bit v c) (bit w c) ≡ false = rw (has, too) refl in absurd (both_ways _ same here)
          | inr lacks ↦ two.stay c (one.all c has lacks)
        ]
        | inr lacks ↦ elim (cases_Bool (bit w c)) [
          | inl has ↦ two.all c has lacks
          | inr too ↦ let same : differ (bit v c) (bit w c) ≡ false = rw (lacks, too) refl in absurd (both_ways _ same here)
        ]
      ]

  pub both_suffice : (d : ℕ) → d ≡ apart (all_columns (length old)) codes i j → d ≤ apart (kept_of new) codes i j
  both_suffice d is =
      let all = marked_suffice codes i j (length old) new (two.long ∙ one.long) all_marked in
      omega arith

-- where the two need to be as far apart as they are
pub apart_forces : (width : ℕ) (codes : List (List Bool)) (need : ℕ → ℕ → ℕ) (i j : ℕ) (old new : List Bool) → IsPair codes i j
    → apart (all_columns width) codes i j ≤ need i j → MarksApart codes i j old new → Forces width codes need old new
apart_forces width codes need i j old new pair no_less marks = record {
  long = marks.long;
  stay = marks.stay;
  come = λ c is. elim (marks.come c is) [
    | inl before ↦ inl before
    | inr differs ↦ inr (record { first = i; second = j; is_pair = pair; differ = differs; no_less = no_less })
  ];
}

pub none_forced : (width : ℕ) (codes : List (List Bool)) (need : ℕ → ℕ → ℕ) (mask : List Bool) → Forces width codes need mask mask
none_forced width codes need mask = record { long = refl; stay = λ c is. is; come = λ c is. inl is }

pub forces_on : (width : ℕ) (codes : List (List Bool)) (need : ℕ → ℕ → ℕ) (a b c : List Bool) → Forces width codes need a b
    → Forces width codes need b c → Forces width codes need a c
forces_on width codes need a b c one two = record {
  long = two.long ∙ one.long;
  stay = λ k is. two.stay k (one.stay k is);
  come = λ k is. elim (two.come k is) [
    | inl before ↦ one.come k before
    | inr forced ↦ inr forced
  ];
}

-- What a mask leaves out. Where it tells each code as far apart from the first as all columns do, what is left out tells none apart.
module _ (codes : List (List Bool)) (width : ℕ) (mask : List Bool) (long : length mask ≡ width) where
  abbrev left_out : List ℕ
  left_out = filter (λ k. not (bit mask k)) (all_columns width)

  both_parts : (i j : ℕ) → apart (kept_of mask) codes i j + apart left_out codes i j ≡ apart (all_columns width) codes i j
  both_parts i j =
      let same = ap (λ n. apart (filter (bit mask) (all_columns n)) codes i j) long in
      let sum = sum_by-filter_both (bit mask) (λ k. not (bit mask k)) (λ k. refl) (λ k. once (differ_at codes i j k)) (all_columns width) in
      omega arith

  pub told_suffices : ((i : ℕ) → i < length codes → apart (all_columns width) codes 0 i ≤ apart (kept_of mask) codes 0 i)
      → (i j : ℕ) → IsPair codes i j → apart (all_columns width) codes i j ≤ apart (kept_of mask) codes i j
  told_suffices told i j pair =
      let way = triangle left_out (code_at codes i) (code_at codes j) (code_at codes 0) in
      let one = told i (let lt = pair.0 in let within = pair.1 in omega arith) in
      let two = told j pair.1 in
      let parts_i = both_parts 0 i in
      let parts_j = both_parts 0 j in
      let parts = both_parts i j in
      omega arith

-- codes of a width differ below it
pub differ_within : (width : ℕ) (codes : List (List Bool)) (i j : ℕ) → HaveWidth width codes → i < length codes → j < length codes → (k : ℕ)
    → DifferAt k codes i j → k < width
differ_within width codes i j have i_within j_within k differs = elim (cases_lt k width) [
  | inl lt ↦ lt
  | inr past ↦
      let long_i = have i [] i_within in
      let long_j = have j [] j_within in
      let none_i : bit (code_at codes i) k ≡ false = get_or_past (code_at codes i) k false (omega arith) in
      let none_j : bit (code_at codes j) k ≡ false = get_or_past (code_at codes j) k false (omega arith) in
      let same : differ (bit (code_at codes i) k) (bit (code_at codes j) k) ≡ false = rw (none_i, none_j) refl in
      absurd (both_ways _ same differs)
]

-- the first n columns at which two codes differ are marked
abbrev pub MarksFirst : List (List Bool) → ℕ → ℕ → ℕ → List Bool → Type 0
MarksFirst codes i j n mask = (c : ℕ) → DifferAt c codes i j → prefix codes i j c < n → bit mask c ≡ true

module _ (codes : List (List Bool)) (i j n column : ℕ) (old new : List Bool) (lt : column < length old) (differs : DifferAt column codes i j)
    (is : new ≡ slice_set old column true) where
  now_marked : IsMarked column old new
  now_marked = subst (λ mask. IsMarked column old mask) (sym is) (set_marks column old lt)

  -- one more of these columns is marked
  pub one_more_marked : (first : List Bool) → MarksApart codes i j first old → MarksApart codes i j first new
  one_more_marked first was = record {
    long = now_marked.long ∙ was.long;
    stay = λ c there. elim (cases_eq c column) [
      | inl e ↦ subst (λ k. bit new k ≡ true) (sym e) now_marked.here
      | inr other ↦ now_marked.elsewhere c other ∙ was.stay c there
    ];
    come = λ c there. elim (cases_eq c column) [
      | inl e ↦ inr (subst (λ k. DifferAt k codes i j) (sym e) differs)
      | inr other ↦ was.come c (sym (now_marked.elsewhere c other) ∙ there)
    ];
  }

  pub next_marked : prefix codes i j column + 1 ≡ n + 1 → MarksFirst codes i j n old → MarksFirst codes i j (n + 1) new
  next_marked nth was c there before = elim (cases_eq c column) [
    | inl e ↦ subst (λ k. bit new k ≡ true) (sym e) now_marked.here
    | inr other ↦ now_marked.elsewhere c other ∙ was c there (elim (cases_lt (prefix codes i j c) n) [
      | inl lower ↦ lower
      | inr last ↦ absurd (other (same_place codes i j (n + 1) 0 c column (there, omega arith) (differs, omega arith)))
    ])
  ]

-- where all are, they tell the two apart as all columns do
pub first_suffice : (width : ℕ) (codes : List (List Bool)) (i j n : ℕ) (mask : List Bool) → HaveWidth width codes → i < length codes → j < length codes
    → length mask ≡ width → prefix codes i j width ≤ n → MarksFirst codes i j n mask → apart (all_columns width) codes i j ≤ apart (kept_of mask) codes i j
first_suffice width codes i j n mask have i_within j_within long enough marked =
    marked_suffice codes i j width mask long (λ k differs.
    let lt = differ_within width codes i j have i_within j_within k differs in
    let rise = prefix_rises codes i j (k + 1) width (omega arith) in
    let more = prefix_more codes i j k in
    let one = step_where codes i j k differs in
    marked k differs (omega arith))

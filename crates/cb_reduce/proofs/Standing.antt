-- What holds while columns are tried from the last to the first for a cap of 1, where those that aren't tried yet stand.
use Rattle.std.specs.Prelude.{IfSome}
use Rattle.std.proofs.Common.{Option, None, Some, ◌≡◌, ℕ, ◌+◌, ◌<◌, ◌≤◌, ◌↔◌, List, [], ◌∷◌, ◌++◌, length, slice_set, replicate, Bool, true, false, not, cond, nat_lt, refl, sym, ap, subst, ◌∙◌, ◌⊎◌, inl, inr, arith}
use Rattle.std.specs.List.{Contains, filter}
use Rattle.std.proofs.lemmas.Bool.{cases_eq, cases_order, cases_Bool, le-ltb, ltb-false, not-true, both_ways}
use Rattle.std.proofs.lemmas.List.{ext_get_or, get_or-set_same, get_or-set_other, length-set, length-replicate, get_or-replicate}
use Rattle.std.proofs.lemmas.List.Elements.{Contains-get_or}
use Rattle.std.proofs.lemmas.List.Filters.{sum_by-filter_both}
use Rattle.std.proofs.lemmas.List.Kept.{IsStrictlyIncreasing-filter}
use Rattle.std.proofs.lemmas.List.Sums.{sum_by-cons}
use Rattle.cb_model.proofs.Rising.{contains_cases, nothing_in_empty}
use Rattle.cb_model.specs.declared.wish.Wish.{Wish}
use Rattle.cb_model.specs.declared.wish.Wish.TheVariants.{Plain, Cap}
use Rattle.cb_coding.specs.Distance.{differ, bit, all_columns, code_at, apart}
use Rattle.cb_coding.specs.Needs.{capped_need, need_of}
use Rattle.cb_coding.specs.Pairs.{IsPair, GoodFor}
use Rattle.cb_coding.specs.Books.{columns_without, IsChoice}
use Rattle.cb_coding.proofs.Distances.{Rising, all_columns_rise, in_all_columns, below_from_all_columns, count_of_fewer}
use Rattle.cb_coding.proofs.BookLaws.{kept_by_filter, was_in_filtered}
use Rattle.cb_coding.proofs.One.{same_numbers}
use Rattle.cb_coding.proofs.RadiusLaws.{distance_turned, need_turned, cap_is_met}
use Rattle.cb_reduce.specs.Alone.{SomeAlone, NoneAlone}
use Rattle.cb_reduce.specs.Pairs.{DifferAt}
use Rattle.cb_reduce.specs.Places.{kept_of}
use Rattle.cb_reduce.proofs.Forcing.{count_of_where}
use Rattle.cb_reduce.proofs.Kept.{in_kept, was_kept, kept_rise, kept_increase, after, in_after, was_after}
use Rattle.cb_reduce.proofs.Prefixes.{step, with_prefix}

-- what holds of a value, if there is one
pub if_some : {V : Type 0} (P Q : V → Type 0) (found : Option V) → ((v : V) → P v → Q v) → IfSome found P → IfSome found Q
if_some P Q None turn is = tt
if_some P Q (Some v) turn is = turn v is

pub of_some : {V : Type 0} (P : V → Type 0) (found : Option V) (v : V) → found ≡ Some v → IfSome found P → P v
of_some P found v is holds = subst (λ f. IfSome f P) is holds

pub not_false : (b : Bool) → not b ≡ false → b ≡ true
not_false true is = refl
not_false false is = absurd (cc is)

-- two codes are apart over columns of which one tells them apart

module _ (codes : List (List Bool)) (i j : ℕ) where
  pub some_apart : (columns : List ℕ) (k : ℕ) → Rising columns → Contains columns k → DifferAt k codes i j → 0 < apart columns codes i j
  some_apart columns k rise there differs =
      let test : ℕ → Bool = λ c. differ (bit (code_at codes i) c) (bit (code_at codes j) c) in
      let one : step codes i j k ≡ 1 = ap (λ b. cond b 1 0) differs in
      let sum = sum_by-cons (step codes i j) k [] in
      let fewer = count_of_fewer test (k ∷ []) columns (λ a b d lt within. absurd (omega arith)) rise
      (λ c alone. elim (contains_cases k [] c alone) [
        | inl e ↦ subst (Contains columns) e there
        | inr none ↦ absurd (nothing_in_empty c none)
      ]) in
      omega arith

  -- and they agree over columns of which none does
  pub none_apart : (columns : List ℕ) → Rising columns → ((k : ℕ) → Contains columns k → differ (bit (code_at codes i) k) (bit (code_at codes j) k) ≡ false)
      → apart columns codes i j ≡ 0
  none_apart columns rise alike =
      let test : ℕ → Bool = λ c. differ (bit (code_at codes i) c) (bit (code_at codes j) c) in
      let fewer = count_of_where test columns [] rise (λ a b d lt within. absurd (omega arith))
      (λ k there is. absurd (both_ways _ (alike k there) is)) in
      omega arith

  pub has_and_lacks : (c : ℕ) → bit (code_at codes i) c ≡ true → bit (code_at codes j) c ≡ false → DifferAt c codes i j
  has_and_lacks c has lacks = rw (has, lacks) refl

  pub lacks_and_has : (c : ℕ) → bit (code_at codes i) c ≡ false → bit (code_at codes j) c ≡ true → DifferAt c codes i j
  lacks_and_has c lacks has = rw (lacks, has) refl

  pub alike : (c : ℕ) (b : Bool) → bit (code_at codes i) c ≡ b → bit (code_at codes j) c ≡ b → differ (bit (code_at codes i) c) (bit (code_at codes j) c) ≡ false
  alike c true one other = rw (one, other) refl
  alike c false one other = rw (one, other) refl

-- a mask without one column: what stands before it, and after it what another mask keeps
module _ (m : ℕ) (mask rest : List Bool) (long : length rest ≡ length mask) (early : (k : ℕ) → k < m → bit rest k ≡ true)
    (here : bit rest m ≡ false) (later : (k : ℕ) → m < k → bit rest k ≡ bit mask k) (within : m < length rest) where
  after_is : after m rest ≡ after m mask
  after_is = same_numbers (after m rest) (after m mask) (IsStrictlyIncreasing-filter (λ k. nat_lt m k) (kept_of rest) (kept_increase rest))
      (IsStrictlyIncreasing-filter (λ k. nat_lt m k) (kept_of mask) (kept_increase mask))
      (λ k there.
      let was = was_after m rest k there in
      let kept = was_kept rest k was.0 in
      in_after m mask k was.1 (in_kept mask k (let lt = kept.0 in omega arith) (sym (later k was.1) ∙ kept.1)))
      (λ k there.
      let was = was_after m mask k there in
      let kept = was_kept mask k was.0 in
      in_after m rest k was.1 (in_kept rest k (let lt = kept.0 in omega arith) (later k was.1 ∙ kept.1)))

  before_is : filter (λ k. not (nat_lt m k)) (kept_of rest) ≡ all_columns m
  before_is = same_numbers (filter (λ k. not (nat_lt m k)) (kept_of rest)) (all_columns m)
      (IsStrictlyIncreasing-filter (λ k. not (nat_lt m k)) (kept_of rest) (kept_increase rest))
      (λ k lt. all_columns_rise m k (k + 1) 0 (omega arith) lt)
      (λ k there.
      let was = was_in_filtered (λ i. not (nat_lt m i)) (kept_of rest) k there in
      let le = ltb-false m k (not-true _ was.1) in
      let kept = was_kept rest k was.0 in
      in_all_columns m k (elim (cases_eq k m) [
        | inl e ↦ absurd (both_ways _ here (subst (λ c. bit rest c ≡ true) e kept.1))
        | inr other ↦ omega arith
      ]))
      (λ k there.
      let lt = below_from_all_columns m k there in
      kept_by_filter (λ i. not (nat_lt m i)) (kept_of rest) k (in_kept rest k (omega arith) (early k lt))
      (let e = le-ltb m k (omega arith) in rw e refl))

  pub without_is : (codes : List (List Bool)) (i j : ℕ) → apart (columns_without m (kept_of mask)) codes i j ≡ apart (kept_of rest) codes i j
  without_is codes i j =
      let whole = with_prefix codes i j (all_columns m) (after m mask) in
      let parts = sum_by-filter_both (λ k. nat_lt m k) (λ k. not (nat_lt m k)) (λ k. refl) (step codes i j) (kept_of rest) in
      let above = ap (λ ks. apart ks codes i j) after_is in
      let below = ap (λ ks. apart ks codes i j) before_is in
      omega arith

-- a column is cleared

module _ (m : ℕ) (old : List Bool) (lt : m < length old) where
  abbrev pub cleared : List Bool
  cleared = slice_set old m false

  pub cleared_long : length cleared ≡ length old
  cleared_long = length-set old m false

  pub cleared_here : bit cleared m ≡ false
  cleared_here = get_or-set_same old m false false lt

  pub cleared_elsewhere : (k : ℕ) → (k ≡ m → ⊥) → bit cleared k ≡ bit old k
  cleared_elsewhere k other = get_or-set_other old m k false false other

  -- and set again
  pub set_back : bit old m ≡ true → slice_set cleared m true ≡ old
  set_back was = ext_get_or false (slice_set cleared m true) old (length-set cleared m true ∙ cleared_long) (λ k within. elim (cases_eq k m) [
    | inl e ↦ subst (λ c. bit (slice_set cleared m true) c ≡ bit old c) (sym e)
        (get_or-set_same cleared m true false (let long = cleared_long in omega arith) ∙ sym was)
    | inr other ↦ get_or-set_other cleared m k true false other ∙ cleared_elsewhere k other
  ])

-- the columns from c on are decided, and those before it stand
pub record IsStanding (width : ℕ) (codes : List (List Bool)) (c : ℕ) (standing : List Bool) : Type 0 where
  pub long : length standing ≡ width
  pub early : (k : ℕ) → k < c → bit standing k ≡ true
  pub good : GoodFor codes (kept_of standing) (capped_need width codes 1)
  pub exactly : (k : ℕ) → c ≤ k → k < width → (bit standing k ≡ true) ↔ (¬ GoodFor codes (columns_without k (kept_of standing)) (capped_need width codes 1))

module _ (width : ℕ) (codes : List (List Bool)) where
  abbrev needs : ℕ → ℕ → ℕ
  needs = capped_need width codes 1

  -- before the first try
  pub all_stand : (standing : List Bool) → standing ≡ replicate width true → IsStanding width codes width standing
  all_stand standing is =
      let long : length standing ≡ width = ap length is ∙ length-replicate width true in
      let stands : (k : ℕ) → k < width → bit standing k ≡ true = λ k lt. ap (λ mask. bit mask k) is ∙ get_or-replicate width k true false lt in
      record {
        long = long;
        early = stands;
        good = λ i j pair.
            let all = count_of_fewer (λ k. differ (bit (code_at codes i) k) (bit (code_at codes j) k)) (all_columns width) (kept_of standing)
            (all_columns_rise width) (kept_rise standing)
            (λ k there. let lt = below_from_all_columns width k there in in_kept standing k (omega arith) (stands k lt)) in
            omega arith;
        exactly = λ k le lt. absurd (omega arith);
      }

  module _ (m : ℕ) (lt : m < width) (standing : List Bool) (was : IsStanding width codes (m + 1) standing) where
    abbrev rest : List Bool
    rest = cleared m standing (let long = was.long in omega arith)

    within : m < length standing
    within = let long = was.long in omega arith

    rest_early : (k : ℕ) → k < m → bit rest k ≡ true
    rest_early k below = cleared_elsewhere m standing within k (λ e. omega arith) ∙ was.early k (omega arith)

    rest_later : (k : ℕ) → m < k → bit rest k ≡ bit standing k
    rest_later k after_m = cleared_elsewhere m standing within k (λ e. omega arith)

    long_rest : length rest ≡ length standing
    long_rest = cleared_long m standing within

    -- two codes that the column tells apart need to be apart
    module _ (i j : ℕ) (differs : DifferAt m codes i j) where
      all_apart : 0 < apart (all_columns width) codes i j
      all_apart = some_apart codes i j (all_columns width) m (all_columns_rise width) (in_all_columns width m lt) differs

    too_close : GoodFor codes (kept_of rest) needs → SomeAlone codes (kept_of rest) m → ⊥
    too_close good some =
        let i = some.one in
        let j = some.other in
        let agree = some.agree in
        let far = all_apart i j (has_and_lacks codes i j m some.has some.lacks) in
        elim (cases_order i j) [
          | inl e ↦ absurd (both_ways _ (subst (λ k. bit (code_at codes k) m ≡ false) (sym e) some.lacks) some.has)
          | inr (inl below) ↦ let enough = good i j (below, some.other_within) in omega arith
          | inr (inr above) ↦
              let enough = good j i (above, some.one_within) in
              let turned = need_turned width codes 1 i j in
              let turned' = distance_turned (kept_of rest) (code_at codes i) (code_at codes j) in
              omega arith
        ]

    -- a column that tells two codes apart alone stands
    pub still_stands : SomeAlone codes (kept_of rest) m → IsStanding width codes m standing
    still_stands some = record {
      long = was.long;
      early = λ k below. was.early k (omega arith);
      good = was.good;
      exactly = λ k le below. elim (cases_eq m k) [
        | inl e ↦ subst (λ c. (bit standing c ≡ true) ↔ (¬ GoodFor codes (columns_without c (kept_of standing)) needs)) e (
          λ is good. too_close (λ i j pair.
              let enough = good i j pair in
              let same = without_is m standing rest long_rest rest_early (cleared_here m standing within) rest_later (let long = long_rest in let inside = within in omega arith) codes i j in
              omega arith) some,
          λ bad. was.early m (omega arith),
        )
        | inr other ↦ was.exactly k (omega arith) below
      ];
    }

    -- without a column that tells no two apart alone, all that need to be are apart
    rest_good : NoneAlone codes (kept_of rest) m → GoodFor codes (kept_of rest) needs
    rest_good none i j pair =
        let lower = pair.0 in
        let upper = pair.1 in
        let enough = was.good i j pair in
        elim (cases_Bool (bit (code_at codes i) m)) [
          | inl has ↦ elim (cases_Bool (bit (code_at codes j) m)) [
            | inl too ↦ let stays = same_where i j (alike codes i j m true has too) in omega arith
            | inr lacks ↦ let far = none i (omega arith) has j upper lacks in omega arith
          ]
          | inr lacks ↦ elim (cases_Bool (bit (code_at codes j) m)) [
            | inl has ↦
                let far = none j upper has i (omega arith) lacks in
                let turned = distance_turned (kept_of rest) (code_at codes i) (code_at codes j) in
                omega arith
            | inr too ↦ let stays = same_where i j (alike codes i j m false lacks too) in omega arith
          ]
        ]
      where
        same_where : (i j : ℕ) → differ (bit (code_at codes i) m) (bit (code_at codes j) m) ≡ false
            → apart (kept_of standing) codes i j ≤ apart (kept_of rest) codes i j
        same_where i j same = count_of_where (λ k. differ (bit (code_at codes i) k) (bit (code_at codes j) k)) (kept_of standing) (kept_of rest)
            (kept_rise standing) (kept_rise rest)
            (λ k there differs. let kept = was_kept standing k there in
            in_kept rest k (let below = kept.0 in let long = long_rest in omega arith) (elim (cases_eq k m) [
              | inl e ↦ absurd (both_ways _ (subst (λ c. differ (bit (code_at codes i) c) (bit (code_at codes j) c) ≡ false) (sym e) same) differs)
              | inr other ↦ cleared_elsewhere m standing within k other ∙ kept.1
            ]))

    -- and it is left out
    pub left_out : NoneAlone codes (kept_of rest) m → IsStanding width codes m rest
    left_out none =
        let inside : m < length rest = let long = long_rest in let inside = within in omega arith in
        let good = rest_good none in
        record {
          long = long_rest ∙ was.long;
          early = rest_early;
          good = good;
          exactly = λ k le below. elim (cases_eq m k) [
            | inl e ↦ subst (λ c. (bit rest c ≡ true) ↔ (¬ GoodFor codes (columns_without c (kept_of rest)) needs)) e (
              λ is. absurd (both_ways _ (cleared_here m standing within) is),
              λ bad. absurd (bad (λ i j pair.
                  let enough = good i j pair in
                  let same = without_is m rest rest refl rest_early (cleared_here m standing within) (λ c lt. refl) inside codes i j in
                  omega arith)),
            )
            | inr other ↦
                let was_exactly = was.exactly k (omega arith) below in
                let bits = rest_later k (omega arith) in
                let same : columns_without k (kept_of rest) ≡ columns_without k (kept_of standing) = ap (λ ks. all_columns k ++ ks) (same_later k (omega arith)) in (
                  λ is. subst (λ ks. ¬ GoodFor codes ks needs) (sym same) (was_exactly.0 (sym bits ∙ is)),
                  λ bad. bits ∙ was_exactly.1 (subst (λ ks. ¬ GoodFor codes ks needs) same bad),
                )
          ];
        }
      where
        same_later : (c : ℕ) → m ≤ c → after c rest ≡ after c standing
        same_later c le = same_numbers (after c rest) (after c standing)
            (IsStrictlyIncreasing-filter (λ k. nat_lt c k) (kept_of rest) (kept_increase rest))
            (IsStrictlyIncreasing-filter (λ k. nat_lt c k) (kept_of standing) (kept_increase standing))
            (λ k there.
            let late = was_after c rest k there in
            let kept = was_kept rest k late.0 in
            in_after c standing k late.1 (in_kept standing k (let below = kept.0 in let long = long_rest in omega arith)
            (sym (rest_later k (let l = late.1 in omega arith)) ∙ kept.1)))
            (λ k there.
            let late = was_after c standing k there in
            let kept = was_kept standing k late.0 in
            in_after c rest k late.1 (in_kept rest k (let below = kept.0 in let long = long_rest in omega arith)
            (rest_later k (let l = late.1 in omega arith) ∙ kept.1)))

  -- after the last try
  pub all_stood : (standing : List Bool) → IsStanding width codes 0 standing → IsChoice width codes needs (kept_of standing)
  all_stood standing done = record {
    good = cap_is_met width codes 1;
    rise = kept_increase standing;
    within = λ k x lt. let was = (was_kept standing _ (Contains-get_or (kept_of standing) k x lt)).0 in let long = done.long in omega arith;
    kept = λ c lt.
        let exactly = done.exactly c (omega arith) lt in
        let long = done.long in (
          λ there. exactly.0 (was_kept standing c there).1,
          λ bad. in_kept standing c (omega arith) (exactly.1 bad),
        );
  }

-- a choice for needs that are alike is one for the others
pub choice_for : (width : ℕ) (codes : List (List Bool)) (one other : ℕ → ℕ → ℕ) (columns : List ℕ) → ((i j : ℕ) → IsPair codes i j → one i j ≡ other i j)
    → IsChoice width codes one columns → IsChoice width codes other columns
choice_for width codes one other columns alike_are is = record {
  good = λ i j pair. let same = alike_are i j pair in let enough = is.good i j pair in omega arith;
  rise = is.rise;
  within = is.within;
  kept = λ c lt. let kept = is.kept c lt in (
    λ there good. kept.0 there (λ i j pair. let same = alike_are i j pair in let enough = good i j pair in omega arith),
    λ bad. kept.1 (λ good. bad (λ i j pair. let same = alike_are i j pair in let enough = good i j pair in omega arith)),
  );
}

-- a wish for 1 asks what a cap of 1 does, where all columns meet it
pub one_is_asked : (width : ℕ) (codes : List (List Bool)) (wish : Wish) (columns : List ℕ) → (wish ≡ Plain 1) ⊎ (wish ≡ Cap 1)
    → GoodFor codes (all_columns width) (need_of width codes wish) → IsChoice width codes (capped_need width codes 1) columns
    → IsChoice width codes (need_of width codes wish) columns
one_is_asked width codes wish columns one good is = elim one [
  | inl plain ↦ choice_for width codes (capped_need width codes 1) (need_of width codes wish) columns (λ i j pair.
      let enough = good i j pair in
      let asks : need_of width codes wish i j ≡ 1 = ap (λ w. need_of width codes w i j) plain in
      omega arith) is
  | inr cap ↦ subst (λ w. IsChoice width codes (need_of width codes w) columns) (sym cap) is
]

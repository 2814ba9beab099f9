-- Codes have a closest pair, and a choice of columns for each need that all columns meet.
use Rattle.std.proofs.Common.{◌≡◌, ◌↔◌, ◌+◌, ◌<◌, ◌≤◌, ◌++◌, ℕ, zero, suc, List, [], ◌∷◌, length, refl, sym, ap, subst, inl, inr, arith, Bool, cond, nat_lt, Option, None, Some}
use Rattle.std.specs.List.{Contains, filter}
use Rattle.std.proofs.lemmas.Bool.{cases_lt, cases_eq, le-ltb}
use Rattle.std.proofs.lemmas.List.Elements.{Contains-get_or}
use Rattle.std.proofs.lemmas.List.Kept.{AllPairs-cons}
use Rattle.cb_model.specs.declared.wish.Wish.{Wish}
use Rattle.cb_model.specs.declared.wish.Wish.TheVariants.{Plain, Cap}
use Rattle.cb_model.proofs.Rising.{contains_cases, contains_head, contains_tail, nothing_in_empty}
use Rattle.cb_coding.specs.declared.book.Book.{Book}
use Rattle.cb_coding.specs.declared.book.Pair.{Pair}
use Rattle.cb_coding.specs.Books.{columns_without, IsChoice, IsInUse, IsMetFor, IsChoiceInUse}
use Rattle.cb_coding.specs.Distance.{apart, all_columns}
use Rattle.cb_coding.specs.Needs.{need_of}
use Rattle.cb_coding.specs.Pairs.{IsClosest, IsClosestPair, plain_need, GoodFor, Good}
use Rattle.cb_coding.proofs.Distances.{Rising}
use Rattle.cb_coding.proofs.RadiusLaws.{cap_is_met}
use Rattle.cb_log.proofs.Announcing.{good_or_close}
use Rattle.cb_network.proofs.Decided.{Decision, decide_both, decide_same, decide_below}
use Rattle.cb_change.proofs.Closure.{decide_not}
use Rattle.cb_existence.proofs.Found.{decide_less}

-- whether codes are as far apart over some columns as they need
decide_good : (codes : List (List Bool)) (columns : List ℕ) (need : ℕ → ℕ → ℕ) → Decision (GoodFor codes columns need)
decide_good codes columns need =
    decide_same (¬ ((i : ℕ) × (i < length codes) × ((j : ℕ) × (j < length codes) × ((i < j) × (apart columns codes i j < need i j))))) (GoodFor codes columns need)
    (λ none i j pair. elim (cases_lt (apart columns codes i j) (need i j)) [
      | inl short ↦
          let below = pair.0 in
          let within = pair.1 in
          absurd (none (i, omega arith, (j, within, (below, short))))
      | inr far ↦ far
    ])
    (λ good (i, lt, (j, within, (below, short))). let far = good i j (below, within) in absurd (omega arith))
    (decide_not _ (decide_below _ (λ i. decide_below _ (λ j. decide_both _ _ (decide_less i j) (decide_less (apart columns codes i j) (need i j))) (length codes)) (length codes)))

-- the closest pair

module _ (columns : List ℕ) (codes : List (List Bool)) (some : 1 < length codes) where
  -- a distance that all have and the next one that not all have
  climbed : (fuel d : ℕ) → suc (apart columns codes 0 1) ≤ fuel + d → Good codes columns d → (pair : Pair) × IsClosest columns codes pair
  climbed zero d enough good =
      let far : d ≤ apart columns codes 0 1 = good 0 1 (omega arith, some) in
      absurd (omega arith)
  climbed (suc fuel) d enough good = elim (good_or_close columns codes (suc d)) [
    | inl more ↦ climbed fuel (suc d) (omega arith) more
    | inr (pair, short) ↦
        let close : pair.distance < suc d = short.close in (
          pair,
          record {
            is_pair = short.is_pair;
            distance = short.distance;
            least = λ i j is. let far : d ≤ apart columns codes i j = good i j is in omega arith;
            first = λ i j is before. let far : suc d ≤ apart columns codes i j = short.first i j is before in omega arith;
          },
        )
  ]

  pub closest : (pair : Pair) × IsClosest columns codes pair
  closest = climbed (suc (apart columns codes 0 1)) 0 (omega arith) (λ i j is. omega arith)

pub closest_pair_exists : (width : ℕ) (codes : List (List Bool)) → (pair : Option Pair) × IsClosestPair width codes pair
closest_pair_exists width codes = elim (cases_lt (length codes) 2) [
  | inl few ↦ (None, few)
  | inr many ↦ let (pair, is) = closest (all_columns width) codes (omega arith) in (Some pair, is)
]

-- the choice for a need

module _ (width : ℕ) (codes : List (List Bool)) (need : ℕ → ℕ → ℕ) where
  -- what is kept of the columns from c on
  record IsKeptFrom (c : ℕ) (ks : List ℕ) : Type 0 where
    rise : Rising ks
    within : (k : ℕ) → Contains ks k → (c ≤ k) × (k < width)
    kept : (k : ℕ) → c ≤ k → k < width → Contains ks k ↔ ¬ GoodFor codes (columns_without k ks) need

  -- a lesser column is left out where the later ones are asked for
  without_lesser : (c k : ℕ) (ks : List ℕ) → c ≤ k → columns_without k (c ∷ ks) ≡ columns_without k ks
  without_lesser c k ks le =
      ap (λ (b : Bool). all_columns k ++ cond b (c ∷ filter (λ j. nat_lt k j) ks) (filter (λ j. nat_lt k j) ks)) (le-ltb k c le)

  not_kept : (c : ℕ) (ks : List ℕ) → c < width → GoodFor codes (columns_without c ks) need → IsKeptFrom (suc c) ks → IsKeptFrom c ks
  not_kept c ks lt good is = record {
    rise = is.rise;
    within = λ k has. let w = is.within k has in let low = w.0 in (omega arith, w.1);
    kept = λ k le below. elim (cases_eq c k) [
      | inl same ↦ subst (λ (j : ℕ). Contains ks j ↔ ¬ GoodFor codes (columns_without j ks) need) same
          (λ has. absurd (let low = (is.within c has).0 in omega arith), λ bad. absurd (bad good))
      | inr apart ↦ is.kept k (omega arith) below
    ];
  }

  one_kept : (c : ℕ) (ks : List ℕ) → c < width → ¬ GoodFor codes (columns_without c ks) need → IsKeptFrom (suc c) ks → IsKeptFrom c (c ∷ ks)
  one_kept c ks lt bad is = record {
    rise = AllPairs-cons (λ x y. x < y) c ks (λ k d below. let low = (is.within _ (Contains-get_or ks k d below)).0 in low) is.rise;
    within = λ k has. elim (contains_cases c ks k has) [
      | inl same ↦ (omega arith, omega arith)
      | inr later ↦ let w = is.within k later in let low = w.0 in (omega arith, w.1)
    ];
    kept = λ k le below. subst (λ (cs : List ℕ). Contains (c ∷ ks) k ↔ ¬ GoodFor codes cs need) (sym (without_lesser c k ks le)) (elim (cases_eq c k) [
      | inl same ↦ subst (λ (j : ℕ). Contains (c ∷ ks) j ↔ ¬ GoodFor codes (columns_without j ks) need) same (λ has. bad, λ no. contains_head c ks)
      | inr apart ↦
          let later = is.kept k (omega arith) below in (
            λ has. later.0 (elim (contains_cases c ks k has) [ inl same ↦ absurd (apart same) | inr in_ks ↦ in_ks ]),
            λ no. contains_tail c ks k (later.1 no),
          )
    ]);
  }

  kept_from : (n c : ℕ) → c + n ≡ width → (ks : List ℕ) × IsKeptFrom c ks
  kept_from zero c end = (
    [],
    record {
      rise = λ i j d lt below. absurd (omega arith);
      within = λ k none. absurd (nothing_in_empty k none);
      kept = λ k le below. absurd (omega arith);
    },
  )
  kept_from (suc n) c end =
      let (ks, is) = kept_from n (suc c) (omega arith) in
      elim (decide_good codes (columns_without c ks) need) [
        | inl good ↦ (ks, not_kept c ks (omega arith) good is)
        | inr bad ↦ (c ∷ ks, one_kept c ks (omega arith) bad is)
      ]

  pub choice_exists : GoodFor codes (all_columns width) need → (columns : List ℕ) × IsChoice width codes need columns
  choice_exists good =
      let (ks, is) = kept_from width 0 (omega arith) in (
        ks,
        record {
          good = good;
          rise = λ k lt. is.rise k (k + 1) 0 (omega arith) lt;
          within = λ k d lt. (is.within _ (Contains-get_or ks k d lt)).1;
          kept = λ c lt. is.kept c (omega arith) lt;
        },
      )

-- the choice in use for a wish
module _ (width : ℕ) (codes : List (List Bool)) where
  for_used : (wish used : Wish) → IsMetFor width codes wish used → GoodFor codes (all_columns width) (need_of width codes used)
      → (used : Wish) × (columns : List ℕ) × IsChoiceInUse width codes wish used columns
  for_used wish used met good =
      let (columns, is) = choice_exists width codes (need_of width codes used) good in
      (used, columns, record { met = met; choice = is })

  pub choice_in_use_exists : (wish : Wish) → (used : Wish) × (columns : List ℕ) × IsChoiceInUse width codes wish used columns
  choice_in_use_exists (Cap cap) = for_used (Cap cap) (Cap cap) refl (cap_is_met width codes cap)
  choice_in_use_exists (Plain d) = elim (good_or_close (all_columns width) codes d) [
    | inl good ↦ for_used (Plain d) (Plain d) (λ g. refl, λ bad. absurd (bad good)) good
    | inr (pair, short) ↦
        let less = short.is_pair.0 in
        let within = short.is_pair.1 in
        let (near, is) = closest (all_columns width) codes (omega arith) in
        let bad : ¬ Good codes (all_columns width) d = λ good.
        let far : d ≤ apart (all_columns width) codes pair.first pair.second = good pair.first pair.second short.is_pair in
        let close : pair.distance < d = short.close in
        let e = short.distance in
        absurd (omega arith) in
        for_used (Plain d) (Plain near.distance) (λ good. absurd (bad good), λ b. (near, is, refl)) (λ i j p. is.least i j p)
  ]

  -- so is a book for a wanted distance
  pub book_in_use_exists : (wanted : ℕ) → (book : Book) × IsInUse width codes wanted book
  book_in_use_exists wanted =
      let (used, columns, is) = choice_in_use_exists (Plain wanted) in
      by_used used columns is.met is.choice
    where
      of_plain : (d : ℕ) (columns : List ℕ) → IsMetFor width codes (Plain wanted) (Plain d) → IsChoice width codes (plain_need d) columns
          → (book : Book) × IsInUse width codes wanted book
      of_plain d columns met choice = (
        record { columns = columns; distance = d },
        record {
          is_book = choice;
          wanted_is = λ good. let e : Plain d ≡ Plain wanted = met.0 good in cc;
          least_is = λ bad. let (pair, is, e) = met.1 bad in (pair, is, let f : Plain d ≡ Plain pair.distance = e in cc);
        },
      )

      by_used : (used : Wish) (columns : List ℕ) → IsMetFor width codes (Plain wanted) used → IsChoice width codes (need_of width codes used) columns
          → (book : Book) × IsInUse width codes wanted book
      by_used (Plain d) columns met choice = of_plain d columns met choice
      by_used (Cap cap) columns met choice = elim (good_or_close (all_columns width) codes wanted) [
        | inl good ↦ let e : Cap cap ≡ Plain wanted = met.0 good in absurd (cc)
        | inr (pair, short) ↦
            let bad : ¬ Good codes (all_columns width) wanted = λ good.
            let far : wanted ≤ apart (all_columns width) codes pair.first pair.second = good pair.first pair.second short.is_pair in
            let close : pair.distance < wanted = short.close in
            let e = short.distance in
            absurd (omega arith) in
            let (near, is, e) = met.1 bad in let f : Cap cap ≡ Plain near.distance = e in absurd (cc)
      ]

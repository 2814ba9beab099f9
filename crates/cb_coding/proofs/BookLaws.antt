-- A choice of columns is one list, it is good, and none of its columns can be left out.
use Rattle.std.proofs.Common.{◌≡◌, ℕ, zero, suc, ◌+◌, ◌<◌, ◌≤◌, List, [], ◌∷◌, ◌++◌, refl, sym, ap, subst, ◌∙◌, arith, Bool, true, false, not, cond, nat_lt, ◌==◌, ◌↔◌, ◌⊎◌, inl, inr}
use Rattle.std.specs.List.{Contains, filter}
use Rattle.std.proofs.lemmas.Bool.{cases_lt, cases_eq, lt-ltb, le-ltb, ltb-true, ltb-false, eqb-false, not-true}
use Rattle.std.proofs.lemmas.List.Elements.{All-contains, filter_passes}
use Rattle.std.proofs.lemmas.List.Kept.{AllPairs-cons, AllPairs-filter, AllPairs-from_increasing, IsStrictlyIncreasing-filter}
use Rattle.std.proofs.lemmas.List.Filters.{sum_by-filter_both}
use Rattle.std.proofs.lemmas.List.Sums.{sum_by-append, sum_by-cons}
use Rattle.cb_model.proofs.Rising.{contains_cases, contains_head, contains_tail, nothing_in_empty}
use Rattle.cb_coding.specs.declared.book.Book.{Book}
use Rattle.cb_coding.specs.declared.book.CapBook.{CapBook}
use Rattle.cb_model.specs.declared.wish.Wish.{Wish}
use Rattle.cb_model.specs.declared.wish.Wish.TheVariants.{Plain, Cap}
use Rattle.cb_coding.specs.Distance.{differ, bit, all_columns, code_at, apart}
use Rattle.cb_coding.specs.Pairs.{IsPair, Good, plain_need, GoodFor}
use Rattle.cb_coding.specs.Needs.{capped_need, need_of}
use Rattle.cb_coding.specs.Books.{columns_without, IsChoice, IsBook, IsCapBook, IsInUse, IsMetFor, IsChoiceInUse}
use Rattle.cb_coding.specs.Laws.{leaving_out}
use Rattle.cb_coding.specs.Radii.{AreRadii}
use Rattle.cb_coding.proofs.One.{same_numbers, closest_is_one}
use Rattle.cb_coding.proofs.RadiusLaws.{radii_are_one}
use Rattle.cb_coding.proofs.Distances.{Rising, all_columns_rise, in_all_columns, count_of_fewer, distance_more}

-- what a filter keeps

pub kept_by_filter : (test : ℕ → Bool) (xs : List ℕ) (x : ℕ) → Contains xs x → test x ≡ true → Contains (filter test xs) x
kept_by_filter test [] x c e = absurd (nothing_in_empty x c)
kept_by_filter test (y ∷ ys) x c e =
    elim (test y) as (λ b. test y ≡ b → Contains (cond b (y ∷ filter test ys) (filter test ys)) x) [
      | true ↦ λ f. elim (contains_cases y ys x c) [
        | inl is ↦ subst (λ z. Contains (y ∷ filter test ys) z) is (contains_head y (filter test ys))
        | inr in_rest ↦ contains_tail y (filter test ys) x (kept_by_filter test ys x in_rest e)
      ]
      | false ↦ λ f. elim (contains_cases y ys x c) [
        | inl is ↦ let g : test x ≡ false = ap test (sym is) ∙ f in absurd (cc)
        | inr in_rest ↦ kept_by_filter test ys x in_rest e
      ]
    ] refl

pub was_in_filtered : (test : ℕ → Bool) (xs : List ℕ) (x : ℕ) → Contains (filter test xs) x → Contains xs x × (test x ≡ true)
was_in_filtered test xs x c = (all xs x c, All-contains (λ y. test y ≡ true) (filter test xs) x (filter_passes test xs) c)
  where
    all : (xs : List ℕ) (x : ℕ) → Contains (filter test xs) x → Contains xs x
    all [] x c = c
    all (y ∷ ys) x c =
        elim (test y) as (λ b. Contains (cond b (y ∷ filter test ys) (filter test ys)) x → Contains (y ∷ ys) x) [
          | true ↦ λ in_all. elim (contains_cases y (filter test ys) x in_all) [
            | inl is ↦ subst (λ z. Contains (y ∷ ys) z) is (contains_head y ys)
            | inr in_rest ↦ contains_tail y ys x (all ys x in_rest)
          ]
          | false ↦ λ in_rest. contains_tail y ys x (all ys x in_rest)
        ] c

-- one choice

-- two wishes are one or not
cases_wish : (v w : Wish) → (v ≡ w) ⊎ (v ≡ w → ⊥)
cases_wish (Plain a) (Plain b) = elim (cases_eq a b) [
  | inl e ↦ inl (ap Plain e)
  | inr other ↦ inr (λ e. other (cc e))
]
cases_wish (Plain a) (Cap b) = inr (λ e. cc e)
cases_wish (Cap a) (Plain b) = inr (λ e. cc e)
cases_wish (Cap a) (Cap b) = elim (cases_eq a b) [
  | inl e ↦ inl (ap Cap e)
  | inr other ↦ inr (λ e. other (cc e))
]

same_book : (a b : Book) → a.columns ≡ b.columns → a.distance ≡ b.distance → a ≡ b
same_book a b e f =
    let book : List ℕ → ℕ → Book = λ columns d. record { columns = columns; distance = d } in
    ap (λ columns. book columns a.distance) e ∙ ap (λ d. book b.columns d) f

module _ (width : ℕ) (codes : List (List Bool)) (need : ℕ → ℕ → ℕ) where
  -- two choices agree on a column where they agree on the later ones
  agree_at : (a b : List ℕ) → IsChoice width codes need a → IsChoice width codes need b → (c : ℕ) → c < width
      → ((z : ℕ) → c < z → Contains a z ↔ Contains b z) → Contains a c → Contains b c
  agree_at a b p q c lt later in_a =
      let after : ℕ → Bool = λ k. nat_lt c k in
      let one : filter after a ≡ filter after b = same_numbers (filter after a) (filter after b)
      (IsStrictlyIncreasing-filter after a p.rise) (IsStrictlyIncreasing-filter after b q.rise)
      (λ z kept. let was = was_in_filtered after a z kept in kept_by_filter after b z ((later z (ltb-true c z was.1)).0 was.0) was.1)
      (λ z kept. let was = was_in_filtered after b z kept in kept_by_filter after a z ((later z (ltb-true c z was.1)).1 was.0) was.1)
      in
      (q.kept c lt).1 (λ good. (p.kept c lt).0 in_a (subst (λ columns. GoodFor codes (all_columns c ++ columns) need) (sym one) good))

  -- from the last column to the first
  agree_from : (a b : List ℕ) → IsChoice width codes need a → IsChoice width codes need b → (n c : ℕ) → c + n ≡ width
      → (z : ℕ) → c ≤ z → Contains a z ↔ Contains b z
  agree_from a b p q zero c end z le =
      let beyond : (columns : List ℕ) → IsChoice width codes need columns → Contains columns z → ⊥ = λ columns is there.
      omega (arith, All-contains (λ k. k < width) columns z is.within there)
      in
      (λ there. absurd (beyond a p there), λ there. absurd (beyond b q there))
  agree_from a b p q (suc n) c end z le =
      let later : (y : ℕ) → c < y → Contains a y ↔ Contains b y = λ y lt. agree_from a b p q n (suc c) (omega arith) y (omega arith) in
      elim (cases_eq c z) [
        | inl is ↦ subst (λ y. Contains a y ↔ Contains b y) is
            (agree_at a b p q c (omega arith) later, agree_at b a q p c (omega arith) (λ y lt. let both = later y lt in (both.1, both.0)))
        | inr apart ↦ later z (omega arith)
      ]

  pub choice_is_one : (a b : List ℕ) → IsChoice width codes need a → IsChoice width codes need b → a ≡ b
  choice_is_one a b p q =
      let agree = agree_from a b p q width 0 (omega arith) in
      same_numbers a b p.rise q.rise (λ z. (agree z (omega arith)).0) (λ z. (agree z (omega arith)).1)

module _ (width : ℕ) (codes : List (List Bool)) where
  pub book_is_one : (a b : Book) → IsBook width codes a → IsBook width codes b → a.distance ≡ b.distance → a ≡ b
  book_is_one a b p q e =
      let at_b : IsChoice width codes (plain_need b.distance) a.columns = subst (λ d. IsChoice width codes (plain_need d) a.columns) e p in
      same_book a b (choice_is_one width codes (plain_need b.distance) a.columns b.columns at_b q) e

  -- two wishes that are met in place of one
  pub met_is_one : (wish used used' : Wish) → IsMetFor width codes wish used → IsMetFor width codes wish used' → used ≡ used'
  met_is_one (Plain d) used used' p q =
      elim (cases_wish used used') [
        | inl e ↦ e
        | inr other ↦
            let thin : ¬ Good codes (all_columns width) d = λ good. other (p.0 good ∙ sym (q.0 good)) in
            let (here, is, e) = p.1 thin in
            let (there, is', f) = q.1 thin in
            e ∙ (ap (λ pair. Plain pair.distance) (closest_is_one (all_columns width) codes here there is is') ∙ sym f)
      ]
  met_is_one (Cap cap) used used' p q = p ∙ sym q

  pub choice_in_use_is_one : (wish used used' : Wish) (a b : List ℕ) → IsChoiceInUse width codes wish used a
      → IsChoiceInUse width codes wish used' b → (used ≡ used') × (a ≡ b)
  choice_in_use_is_one wish used used' a b p q =
      let same = met_is_one wish used used' p.met q.met in
      (same, choice_is_one width codes (need_of width codes used') a b (subst (λ w. IsChoice width codes (need_of width codes w) a) same p.choice) q.choice)

  pub book_in_use_is_one : (wanted : ℕ) (a b : Book) → IsInUse width codes wanted a → IsInUse width codes wanted b → a ≡ b
  book_in_use_is_one wanted a b p q =
      let far : a.distance ≡ b.distance =
      elim (cases_eq a.distance b.distance) [
        | inl e ↦ e
        | inr other ↦
            let thin : ¬ Good codes (all_columns width) wanted = λ good. other (p.wanted_is good ∙ sym (q.wanted_is good)) in
            let (here, is, e) = p.least_is thin in
            let (there, is', f) = q.least_is thin in
            e ∙ (ap (λ pair. pair.distance) (closest_is_one (all_columns width) codes here there is is') ∙ sym f)
      ]
      in
      book_is_one a b p.is_book q.is_book far

-- a good choice

-- what isn't refuted holds, since distances are numbers
pub good_for_is_stable : (codes : List (List Bool)) (columns : List ℕ) (need : ℕ → ℕ → ℕ) → ¬ ¬ GoodFor codes columns need → GoodFor codes columns need
good_for_is_stable codes columns need holds i j pair =
    elim (cases_lt (apart columns codes i j) (need i j)) [
      | inl low ↦ absurd (holds (λ good. omega (arith, good i j pair)))
      | inr high ↦ high
    ]

pub good_is_stable : (codes : List (List Bool)) (columns : List ℕ) (d : ℕ) → ¬ ¬ Good codes columns d → Good codes columns d
good_is_stable codes columns d = good_for_is_stable codes columns (plain_need d)

module _ (width : ℕ) (codes : List (List Bool)) (need : ℕ → ℕ → ℕ) (columns : List ℕ) (is : IsChoice width codes need columns) where
  -- the columns from c on, and those after c
  abbrev from : ℕ → List ℕ
  from c = filter (λ k. not (nat_lt k c)) columns

  abbrev after : ℕ → List ℕ
  after c = filter (λ k. nat_lt c k) columns

  rise : Rising columns
  rise = AllPairs-from_increasing columns is.rise

  from_rise : (c : ℕ) → Rising (from c)
  from_rise c = AllPairs-filter (λ x y. x < y) (λ k. not (nat_lt k c)) columns rise

  after_rise : (c : ℕ) → Rising (after c)
  after_rise c = AllPairs-filter (λ x y. x < y) (λ k. nat_lt c k) columns rise

  in_from : (c k : ℕ) → c ≤ k → Contains columns k → Contains (from c) k
  in_from c k le there = kept_by_filter (λ j. not (nat_lt j c)) columns k there (let e = le-ltb k c le in rw e refl)

  module _ (i j : ℕ) where
    -- how far the two are apart over columns
    abbrev far : List ℕ → ℕ
    far ks = apart ks codes i j

    far_after : (c : ℕ) → far (after c) ≤ far (from c)
    far_after c = count_of_fewer _ (after c) (from c) (after_rise c) (from_rise c)
        (λ k kept. let was = was_in_filtered (λ j. nat_lt c j) columns k kept in
        let lt = ltb-true c k was.1 in
        in_from c k (omega arith) was.0)

    far_with : (c : ℕ) → Contains columns c → far (c ∷ after c) ≤ far (from c)
    far_with c there = count_of_fewer _ (c ∷ after c) (from c)
        (AllPairs-cons (λ x y. x < y) c (after c) (λ k d lt. ltb-true c _ (filter_passes (λ j. nat_lt c j) columns k d lt)) (after_rise c)) (from_rise c)
        (λ k kept. elim (contains_cases c (after c) k kept) [
          | inl e ↦ in_from c k (omega arith) (subst (Contains columns) e there)
          | inr late ↦
              let was = was_in_filtered (λ j. nat_lt c j) columns k late in
              let lt = ltb-true c k was.1 in
              in_from c k (omega arith) was.0
        ])

    far_from : (c : ℕ) → far (from (c + 1)) ≤ far (after c)
    far_from c = count_of_fewer _ (from (c + 1)) (after c) (from_rise (c + 1)) (after_rise c)
        (λ k kept.
        let was = was_in_filtered (λ j. not (nat_lt j (c + 1))) columns k kept in
        let ge = ltb-false k (c + 1) (not-true _ was.1) in
        kept_by_filter (λ j. nat_lt c j) columns k was.0 (lt-ltb c k (omega arith)))

    far_append : (xs ys : List ℕ) → far (xs ++ ys) ≡ far xs + far ys
    far_append = sum_by-append (λ k. cond (differ (bit (code_at codes i) k) (bit (code_at codes j) k)) 1 0)

    far_cons : (k : ℕ) (ks : List ℕ) → far (k ∷ ks) ≡ cond (differ (bit (code_at codes i) k) (bit (code_at codes j) k)) 1 0 + far ks
    far_cons = sum_by-cons (λ k. cond (differ (bit (code_at codes i) k) (bit (code_at codes j) k)) 1 0)

  -- from the last column to the first: the columns before, with the kept ones from there on, are good
  good_from : (n c : ℕ) → c + n ≡ width → (i j : ℕ) → IsPair codes i j → need i j ≤ far i j (all_columns c) + far i j (from c)
  good_from zero c end i j pair =
      let e : c ≡ width = omega arith in
      omega (arith, is.good i j pair, ap (λ k. far i j (all_columns k)) e)
  good_from (suc n) c end i j pair =
      let later = good_from n (c + 1) (omega arith) i j pair in
      let fewer = far_from i j c in
      let more = distance_more c (code_at codes i) (code_at codes j) in
      elim (cases_lt (far i j (all_columns c) + far i j (from c)) (need i j)) [
        | inl low ↦
            let out : ¬ Contains columns c = λ there. omega (arith, far_with i j c there, far_cons i j c (after c)) in
            let good = good_for_is_stable codes (columns_without c columns) need (λ bad. out ((is.kept c (omega arith)).1 bad)) in
            absurd (omega (arith, good i j pair, far_append i j (all_columns c) (after c), far_after i j c))
        | inr high ↦ high
      ]

  pub choice_is_good : GoodFor codes columns need
  choice_is_good i j pair =
      let whole = good_from width 0 (omega arith) i j pair in
      let fewer : far i j (from 0) ≤ far i j columns = count_of_fewer _ (from 0) columns (from_rise 0) rise
      (λ k kept. (was_in_filtered (λ j. not (nat_lt j 0)) columns k kept).0) in
      omega arith

  pub choice_is_tight : (c : ℕ) → Contains columns c → ¬ GoodFor codes (leaving_out c columns) need
  choice_is_tight c there good =
      let within = All-contains (λ k. k < width) columns c is.within there in
      (is.kept c within).0 there (λ i j pair.
      let left = leaving_out c columns in
      let left_rise = AllPairs-filter (λ x y. x < y) (λ k. not (k == c)) columns rise in
      let later : ℕ → Bool = λ k. nat_lt c k in
      let early : ℕ → Bool = λ k. not (nat_lt c k) in
      let parts = sum_by-filter_both later early (λ k. refl) (λ k. cond (differ (bit (code_at codes i) k) (bit (code_at codes j) k)) 1 0) left in
      let above : far i j (filter later left) ≤ far i j (after c) = count_of_fewer _ (filter later left) (after c) (AllPairs-filter (λ x y. x < y) later left left_rise) (after_rise c)
      (λ k kept.
      let was = was_in_filtered later left k kept in
      kept_by_filter later columns k (was_in_filtered (λ j. not (j == c)) columns k was.0).0 was.1)
      in
      let below : far i j (filter early left) ≤ far i j (all_columns c) = count_of_fewer _ (filter early left) (all_columns c) (AllPairs-filter (λ x y. x < y) early left left_rise) (all_columns_rise c)
      (λ k kept.
      let was = was_in_filtered early left k kept in
      let le = ltb-false c k (not-true _ was.1) in
      let other = eqb-false k c (not-true _ (was_in_filtered (λ j. not (j == c)) columns k was.0).1) in
      in_all_columns c k (omega arith))
      in
      omega (arith, good i j pair, far_append i j (all_columns c) (after c)))

-- books

module _ (width : ℕ) (codes : List (List Bool)) (book : Book) (is : IsBook width codes book) where
  pub book_is_good : Good codes book.columns book.distance
  book_is_good = choice_is_good width codes (plain_need book.distance) book.columns is

  pub book_is_tight : (c : ℕ) → Contains book.columns c → ¬ Good codes (leaving_out c book.columns) book.distance
  book_is_tight = choice_is_tight width codes (plain_need book.distance) book.columns is

same_cap_book : (a b : CapBook) → a.columns ≡ b.columns → a.cap ≡ b.cap → a.radii ≡ b.radii → a ≡ b
same_cap_book a b e f g =
    let book : List ℕ → ℕ → List ℕ → CapBook = λ columns cap radii. record { columns = columns; cap = cap; radii = radii } in
    ap (λ columns. book columns a.cap a.radii) e ∙ (ap (λ cap. book b.columns cap a.radii) f ∙ ap (λ radii. book b.columns b.cap radii) g)

pub cap_book_is_one : (width : ℕ) (codes : List (List Bool)) (a b : CapBook) → IsCapBook width codes a → IsCapBook width codes b → a.cap ≡ b.cap → a ≡ b
cap_book_is_one width codes a b p q e =
    let choice : IsChoice width codes (capped_need width codes b.cap) a.columns =
    subst (λ cap. IsChoice width codes (capped_need width codes cap) a.columns) e p.choice
    in
    let radii : AreRadii width codes b.cap a.radii = subst (λ cap. AreRadii width codes cap a.radii) e p.radii in
    same_cap_book a b (choice_is_one width codes (capped_need width codes b.cap) a.columns b.columns choice q.choice) e
    (radii_are_one width codes b.cap a.radii b.radii radii q.radii)

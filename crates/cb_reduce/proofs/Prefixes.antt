-- How many columns before one tell two codes apart.
use Rattle.std.proofs.Common.{◌≡◌, ℕ, zero, suc, ◌+◌, ◌-◌, ◌<◌, ◌≤◌, ◌↔◌, List, ◌++◌, ap, subst, arith, Bool, cond, nat_lt, inl, inr}
use Rattle.std.specs.List.{filter}
use Rattle.std.proofs.lemmas.Bool.{cases_lt, cases_order, cases_Bool}
use Rattle.std.proofs.lemmas.List.Sums.{sum_by-append}
use Rattle.cb_coding.specs.Distance.{differ, bit, all_columns, code_at, apart}
use Rattle.cb_coding.specs.Pairs.{GoodFor}
use Rattle.cb_coding.specs.Books.{columns_without}
use Rattle.cb_coding.proofs.Distances.{distance_more}
use Rattle.cb_reduce.specs.Pairs.{DifferAt, IsTooClose}
use Rattle.cb_reduce.specs.Waits.{WaitsAt}
use Rattle.cb_reduce.specs.Laws.{through}
use Rattle.cb_reduce.proofs.Search.{close_or_good}

module _ (codes : List (List Bool)) (i j : ℕ) where
  -- what a column adds to how far the two are apart
  abbrev pub step : ℕ → ℕ
  step c = cond (differ (bit (code_at codes i) c) (bit (code_at codes j) c)) 1 0

  abbrev pub prefix : ℕ → ℕ
  prefix c = apart (all_columns c) codes i j

  pub prefix_more : (c : ℕ) → prefix (c + 1) ≡ prefix c + step c
  prefix_more c = distance_more c (code_at codes i) (code_at codes j)

  pub with_prefix : (xs ys : List ℕ) → apart (xs ++ ys) codes i j ≡ apart xs codes i j + apart ys codes i j
  with_prefix = sum_by-append step

  pub step_where : (c : ℕ) → DifferAt c codes i j → step c ≡ 1
  step_where c differs = ap (λ b. cond b 1 0) differs

  where_step : (c : ℕ) → 0 < step c → DifferAt c codes i j
  where_step c some = elim (cases_Bool (differ (bit (code_at codes i) c) (bit (code_at codes j) c))) [
    | inl is ↦ is
    | inr isnt ↦ absurd (let none : step c ≡ 0 = ap (λ b. cond b 1 0) isnt in omega arith)
  ]

  rises_by : (n a : ℕ) → prefix a ≤ prefix (a + n)
  rises_by zero a = let e : a ≡ a + 0 = omega arith in subst (λ m. prefix a ≤ prefix m) e (omega arith)
  rises_by (suc n) a =
      let e : a + n + 1 ≡ a + suc n = omega arith in
      let more = prefix_more (a + n) in
      let rest = rises_by n a in
      subst (λ m. prefix a ≤ prefix m) e (omega arith)

  pub prefix_rises : (a b : ℕ) → a ≤ b → prefix a ≤ prefix b
  prefix_rises a b le = let e : a + (b - a) ≡ b = omega arith in subst (λ m. prefix a ≤ prefix m) e (rises_by (b - a) a)

  pub waits_where_too_close : (kept : List ℕ) (d c : ℕ) → d ≤ apart (all_columns (c + 1) ++ kept) codes i j
      → (apart (all_columns c ++ kept) codes i j < d) ↔ WaitsAt codes d i j (apart kept codes i j) c
  waits_where_too_close kept d c far =
      let before = with_prefix (all_columns (c + 1)) kept in
      let after = with_prefix (all_columns c) kept in
      let more = prefix_more c in (
        λ close. let one : 0 < step c = omega arith in let is = where_step c one in let same = step_where c is in (is, omega arith),
        λ waits. let e = waits.1 in omega arith,
      )

  module _ (d : ℕ) where
    pub earlier : (k l a b : ℕ) → k < l → WaitsAt codes d i j k a → WaitsAt codes d i j l b → b < a
    earlier k l a b lt at at' = elim (cases_lt b a) [
      | inl before ↦ before
      | inr late ↦ let rise = prefix_rises a b late in let e = at.1 in let f = at'.1 in absurd (omega arith)
    ]

    not_later : (k a b : ℕ) → WaitsAt codes d i j k a → WaitsAt codes d i j k b → a < b → ⊥
    not_later k a b at at' lt =
        let rise = prefix_rises (a + 1) b (omega arith) in
        let more = prefix_more a in
        let one = step_where a at.0 in
        let e = at.1 in
        let f = at'.1 in
        omega arith

    pub same_place : (k a b : ℕ) → WaitsAt codes d i j k a → WaitsAt codes d i j k b → a ≡ b
    same_place k a b at at' = elim (cases_order a b) [
      | inl e ↦ e
      | inr (inl below) ↦ absurd (not_later k a b at at' below)
      | inr (inr above) ↦ absurd (not_later k b a at' at above)
    ]

pub only_differing_count : (codes : List (List Bool)) (columns : List ℕ) (need : ℕ → ℕ → ℕ) (c : ℕ) → GoodFor codes (through c columns) need
    → (¬ GoodFor codes (columns_without c columns) need) ↔ IsTooClose codes (columns_without c columns) need c
only_differing_count codes columns need c good =
    let later : List ℕ = filter (λ k. nat_lt c k) columns in (
      λ bad. elim (close_or_good codes (columns_without c columns) need) [
        | inl found ↦
            let (i, j, pair, close) = found in
            let waits = (waits_where_too_close codes i j later (need i j) c (good i j pair)).0 close in
            record { first = i; second = j; is_pair = pair; differ = waits.0; close = close }
        | inr fine ↦ absurd (bad fine)
      ],
      λ is fine. let far = fine is.first is.second is.is_pair in let close = is.close in omega arith,
    )

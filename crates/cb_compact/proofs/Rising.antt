-- Rising positions are those of the ones of the row that has its ones there.
use Rattle.std.proofs.Common.{◌≡◌, ◌≢◌, ◌==◌, ◌||◌, ℕ, zero, suc, ◌+◌, ◌<◌, ◌≤◌, List, [], ◌∷◌, ◌++◌, take, replicate, set, get_or, Bool, true, false, length, slice_index_or, refl, sym, ap, ◌∙◌, inl, inr, arith}
use Rattle.std.specs.List.{All, count_by, list_any, range_with_len}
use Rattle.std.proofs.lemmas.Bool.{cases_lt, cases_eq, cases_Bool, eqb-true, eq-eqb, ne_eqb}
use Rattle.std.proofs.lemmas.List.{same_lists, length-replicate, get_or-replicate, length-set, get_or-set_same, get_or-set_other, get_or_default, take_all}
use Rattle.std.proofs.lemmas.List.Elements.{All-get_or}
use Rattle.std.proofs.lemmas.List.Folds.{list_any_at, list_any-append}
use Rattle.std.proofs.lemmas.List.FromFn.{length-map-range_with_len, get_or-map-range_with_len}
use Rattle.std.proofs.lemmas.List.Sums.{length-filter}
use Rattle.std.proofs.lemmas.Grind.{take_at_read}
use Rattle.std.proofs.lemmas.Map.Views.{Contains-from_any}
use Rattle.cb_bits.specs.Bits.{IsNextOne}
use Rattle.cb_compact.specs.Compact.{ones_of, with_ones, AreRising}
use Rattle.cb_compact.proofs.Numbers.{ones_before, next_comes, none_comes}
use Rattle.cb_compact.proofs.Ones.{one_within, by_places}

-- as many values as are asked for
pub as_long : (places : List ℕ) (n : ℕ) → length (with_ones places n) ≡ n
as_long places n = length-map-range_with_len (λ k. list_any (λ place. k == place) places) 0 n

-- no one, and one more
pub no_ones : (n : ℕ) → with_ones [] n ≡ replicate n false
no_ones n =
    let long = length-map-range_with_len (λ k. false) 0 n in
    let wide = length-replicate n false in
    same_lists (with_ones [] n) (replicate n false) (long ∙ sym wide)
    (λ k d lt. get_or-map-range_with_len (λ k. false) 0 n k k d (omega arith) (omega arith) ∙ sym (get_or-replicate n k false d (omega arith)))

pub with_one_more : (places : List ℕ) (place n : ℕ) → place < n → set (with_ones places n) place true ≡ with_ones (places ++ place ∷ []) n
with_one_more places place n within =
    let before : ℕ → Bool = λ k. list_any (λ p. k == p) places in
    let after : ℕ → Bool = λ k. list_any (λ p. k == p) (places ++ place ∷ []) in
    let long = length-map-range_with_len before 0 n in
    let size = length-set (with_ones places n) place true in
    let longer = length-map-range_with_len after 0 n in
    same_lists (set (with_ones places n) place true) (with_ones (places ++ place ∷ []) n) (size ∙ long ∙ sym longer) (λ k d lt.
    let low : k < n = omega arith in
    elim (cases_eq k place) [
      | inl here ↦
          ap (λ j. get_or (set (with_ones places n) place true) j d) here ∙ get_or-set_same (with_ones places n) place true d (omega arith)
          ∙ sym (get_or-map-range_with_len after 0 n k k d low (omega arith) ∙ list_any-append (λ p. k == p) places (place ∷ []) ∙ last_any k place (before k) here)
      | inr other ↦
          get_or-set_other (with_ones places n) place k true d other ∙ get_or-map-range_with_len before 0 n k k d low (omega arith)
          ∙ sym (get_or-map-range_with_len after 0 n k k d low (omega arith) ∙ list_any-append (λ p. k == p) places (place ∷ []) ∙ no_last_any k place (before k) other)
    ])
  where
    last_any : (k place : ℕ) (b : Bool) → k ≡ place → (b || ((k == place) || false)) ≡ true
    last_any k place true e = refl
    last_any k place false e = rw (eq-eqb k place e) refl

    no_last_any : (k place : ℕ) (b : Bool) → k ≢ place → (b || ((k == place) || false)) ≡ b
    no_last_any k place true other = refl
    no_last_any k place false other = rw (ne_eqb k place other) refl

module _ (places : List ℕ) (n : ℕ) (rise : AreRising places) (within : All (λ k. k < n) places) where
  abbrev value : ℕ → Bool
  value k = list_any (λ place. k == place) places

  abbrev row : List Bool
  row = with_ones places n

  pub long : length (with_ones places n) ≡ n
  long = length-map-range_with_len value 0 n

  value_at : (k : ℕ) → k < n → slice_index_or row k false ≡ value k
  value_at k lt = get_or-map-range_with_len value 0 n k k false (omega arith) (omega arith)

  abbrev at : ℕ → ℕ
  at i = slice_index_or places i 0

  -- from there on the position at an index is the next one
  abbrev start : ℕ → ℕ
  start zero = 0
  start (suc i) = slice_index_or places i 0 + 1

  before_start : (i t : ℕ) → i ≤ length places → t < i → at t < start i
  before_start zero t le lt = absurd (omega arith)
  before_start (suc i) t le lt = elim (cases_eq t i) [
    | inl e ↦ let same = ap at e in omega arith
    | inr other ↦ let low = rise t i 0 (omega arith) (omega arith) in omega arith
  ]

  start_before : (i t : ℕ) → i ≤ t → t < length places → start i ≤ at t
  start_before zero t le lt = omega arith
  start_before (suc i) t le lt = let low = rise i t 0 (omega arith) lt in omega arith

  start_within : (i : ℕ) → i ≤ length places → start i ≤ n
  start_within zero le = omega arith
  start_within (suc i) le = let lt = All-get_or (λ k. k < n) places i 0 (omega arith) within in omega arith

  -- no one stands between
  none_between : (i j : ℕ) → i ≤ length places → start i ≤ j → (i < length places → j < at i) → slice_index_or row j false ≡ false
  none_between i j le low high = elim (cases_Bool (slice_index_or row j false)) [
    | inl is ↦
        let lt : j < n = let inside = one_within row j is in let same = long in omega arith in
        let there = Contains-from_any (λ x y same. eqb-true x y same) j places (sym (value_at j lt) ∙ is) in
        let here = get_or_default places there.0 0 j there.1 ∙ there.2 in
        elim (cases_lt there.0 i) [
          | inl early ↦ let before = before_start i there.0 le early in absurd (omega arith)
          | inr late ↦
              let inside = there.1 in
              let next = high (omega arith) in
              elim (cases_eq i there.0) [
                | inl e ↦ let same = ap at e in absurd (omega arith)
                | inr other ↦ let later = rise i there.0 0 (omega arith) inside in absurd (omega arith)
              ]
        ]
    | inr isnt ↦ isnt
  ]

  next : (i : ℕ) → i < length places → IsNextOne row (start i) (at i)
  next i lt = record {
    on = start_before i i (omega arith) lt;
    is = value_at (at i) (All-get_or (λ k. k < n) places i 0 lt within) ∙ list_any_at (λ place. at i == place) places i 0 lt (eq-eqb (at i) (at i) refl);
    first = λ j low high. none_between i j (omega arith) low (λ _. high);
  }

  begins : (i : ℕ) → i ≤ length places → take i places ≡ ones_before row (start i)
  begins zero le = refl
  begins (suc i) le =
      let lt : i < length places = omega arith in
      let e : suc i ≡ i + 1 = omega arith in
      let more = take_at_read places i 0 lt in
      ap (λ m. take m places) e ∙ more.1 ∙ next_comes row (take i places) (start i) (at i) (begins i (omega arith)) (next i lt)

  pub rising_are_ones : places ≡ ones_of (with_ones places n)
  rising_are_ones =
      let all = take_all (length places) places (omega arith) in
      let enough = start_within (length places) (omega arith) in
      let same = long in
      none_comes row places (start (length places)) (sym all ∙ begins (length places) (omega arith)) (omega arith)
      (λ k low. none_between (length places) k (omega arith) low (λ lt. absurd (omega arith)))

  pub as_many : length places ≡ count_by (λ value. value) (with_ones places n)
  as_many =
      ap length rising_are_ones ∙ length-filter (λ k. slice_index_or row k false) (range_with_len 0 (length row)) ∙ by_places row

-- The codes after one that needn't be compared: those that have none of a number of its columns.
use Rattle.std.proofs.Common.{◌≡◌, ◌↔◌, IsTrue, ℕ, zero, suc, ◌+◌, ◌-◌, ◌<◌, ◌≤◌, ◌⊎◌, List, length, get_or, Bool, true, false, cond, refl, sym, ap, subst, inl, inr, arith}
use Rattle.std.specs.List.{All, Contains}
use Rattle.std.proofs.lemmas.Bool.{cases_lt, cases_eq, cases_Bool, both_ways}
use Rattle.std.proofs.lemmas.List.Elements.{Contains-get_or}
use Rattle.cb_coding.specs.Distance.{differ, bit, distance, all_columns, code_at, apart}
use Rattle.cb_coding.proofs.Distances.{distance_more, in_all_columns, below_from_all_columns}
use Rattle.cb_coding.proofs.BookLaws.{kept_by_filter, was_in_filtered}
use Rattle.cb_codes.specs.Codes.{Coded}
use Rattle.cb_codes.specs.Holders.{holders_of}
use Rattle.cb_distance.specs.Close.{far, AreAllFar, IsCloseOrEnd}

-- over more columns codes are no closer

further_by : (v w : List Bool) (k m n : ℕ) → m + k ≡ n → distance (all_columns m) v w ≤ distance (all_columns n) v w
further_by v w zero m n e =
    let same : n ≡ m = omega arith in
    let f = ap (λ x. distance (all_columns x) v w) same in
    omega arith
further_by v w (suc k) m n e =
    let last : n ≡ m + k + 1 = omega arith in
    let whole = ap (λ x. distance (all_columns x) v w) last in
    let more = distance_more (m + k) v w in
    let rest = further_by v w k m (m + k) refl in
    omega arith

pub further : (v w : List Bool) (m n : ℕ) → m ≤ n → distance (all_columns m) v w ≤ distance (all_columns n) v w
further v w m n le = further_by v w (n - m) m n (omega arith)

-- where one code alone has a column, the two differ there

abbrev once : Bool → ℕ
once b = cond b 1 0

pub one_alone : (a b : Bool) → a ≡ true → b ≡ false → once (differ a b) ≡ 1
one_alone true false one none = refl
one_alone true true one none = absurd (cc)
one_alone false b one none = absurd (cc)

-- the codes that have a column
module _ (rows : List (List Bool)) (column : ℕ) (places : List ℕ) (are : places ≡ holders_of rows column) where
  pub holders_within : All (λ j. j < length rows) places
  holders_within k d lt =
      let there = subst (λ ps. Contains ps (get_or places k d)) are (Contains-get_or places k d lt) in
      below_from_all_columns (length rows) _ (was_in_filtered (λ j. bit (code_at rows j) column) (all_columns (length rows)) _ there).0

  pub holders_had : All (λ j. bit (code_at rows j) column ≡ true) places
  holders_had k d lt =
      let there = subst (λ ps. Contains ps (get_or places k d)) are (Contains-get_or places k d lt) in
      (was_in_filtered (λ j. bit (code_at rows j) column) (all_columns (length rows)) _ there).1

  pub holders_have : (j : ℕ) → j < length rows → bit (code_at rows j) column ≡ true → Contains places j
  holders_have j lt has = subst (λ ps. Contains ps j) (sym are)
      (kept_by_filter (λ k. bit (code_at rows k) column) (all_columns (length rows)) j (in_all_columns (length rows) j lt) has)

module _ (codes : Coded) (first : ℕ) (need : ℕ → ℕ → ℕ) where
  -- each code after the first, before the end, is far, or differs from it in that number of the columns below one
  abbrev pub AreFarOrDiffer : ℕ → ℕ → ℕ → Type 0
  AreFarOrDiffer below count end = (j : ℕ) → first < j → j < end → (need first j ≤ far codes first j) ⊎ (count ≤ apart (all_columns below) codes.rows first j)

  pub within_all : (end : ℕ) → IsCloseOrEnd codes first need end → end ≤ length codes.rows
  within_all end is = elim is [ inl close ↦ let lt = close.within in omega arith | inr all ↦ omega arith ]

  module _ (from column looked end : ℕ) (on : from ≤ column) (old : AreFarOrDiffer from looked end) where
    -- a column that is ignored
    pub column_passed : AreFarOrDiffer (column + 1) looked end
    column_passed = λ j after before. elim (old j after before) [
      | inl is ↦ inl is
      | inr many ↦ inr (let more = further (code_at codes.rows first) (code_at codes.rows j) from (column + 1) (omega arith) in omega arith)
    ]

    -- a column of the first code, all others with which were looked at
    pub column_looked : (places : List ℕ) (new : ℕ) → bit (code_at codes.rows first) column ≡ true → places ≡ holders_of codes.rows column
        → new ≤ end → new ≤ length codes.rows → ((j : ℕ) → Contains places j → first < j → j < new → need first j ≤ far codes first j)
        → AreFarOrDiffer (column + 1) (looked + 1) new
    column_looked places new has are low within looks = λ j after before. elim (old j after (omega arith)) [
      | inl is ↦ inl is
      | inr many ↦ elim (cases_Bool (bit (code_at codes.rows j) column)) [
        | inl both ↦ inl (looks j (holders_have codes.rows column places are j (omega arith) both) after before)
        | inr alone ↦ inr (
            let more = distance_more column (code_at codes.rows first) (code_at codes.rows j) in
            let here = one_alone (bit (code_at codes.rows first) column) (bit (code_at codes.rows j) column) has alone in
            let rest = further (code_at codes.rows first) (code_at codes.rows j) from column on in
            omega arith)
      ]
    ]

  -- enough were looked at
  pub enough_looked : (from looked end most : ℕ) → ((j : ℕ) → need first j ≤ most) → from ≤ codes.width → most ≤ looked → AreFarOrDiffer from looked end
      → AreAllFar codes first need end
  enough_looked from looked end most bound within enough old = λ j after before. elim (old j after before) [
    | inl is ↦ is
    | inr many ↦ let more = further (code_at codes.rows first) (code_at codes.rows j) from codes.width within in let low = bound j in omega arith
  ]

  -- what isn't close is far
  pub is_far : (near : Bool) (second : ℕ) → IsTrue near ↔ (far codes first second < need first second) → near ≡ false → need first second ≤ far codes first second
  is_far near second close isnt = elim (cases_lt (far codes first second) (need first second)) [
    | inl lt ↦ absurd (both_ways _ isnt (close.1 lt))
    | inr le ↦ le
  ]

  -- one code more that is far
  pub far_more : (second : ℕ) → AreAllFar codes first need second → need first second ≤ far codes first second → AreAllFar codes first need (second + 1)
  far_more second are here = λ j after below. elim (cases_eq second j) [
    | inl same ↦ subst (λ k. need first k ≤ far codes first k) same here
    | inr other ↦ are j after (omega arith)
  ]

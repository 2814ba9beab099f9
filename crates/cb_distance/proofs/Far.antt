-- Codes over some columns alone are as far apart as the codes are over these columns.
use Rattle.std.proofs.Common.{◌≡◌, ℕ, zero, suc, ◌+◌, ◌<◌, ◌≤◌, List, [], ◌∷◌, Bool, cond, length, get_or, refl, sym, ap, subst, ◌∙◌, inl, inr, arith, Option, None, Some, IfSome, IfNone}
use Rattle.std.specs.Prelude.{slice_index_or}
use Rattle.std.specs.List.{AllZip, count_by, range_with_len}
use Rattle.std.proofs.lemmas.Bool.{cases_lt}
use Rattle.std.proofs.lemmas.List.FromFn.{length-range_with_len}
use Rattle.std.proofs.lemmas.List.Sums.{sum_by-cons, count_by-le-length}
use Rattle.cb_coding.specs.declared.book.Pair.{Pair}
use Rattle.cb_coding.specs.Distance.{differ, bit, distance, all_columns, code_at, apart, HaveWidth}
use Rattle.cb_coding.specs.Pairs.{IsPair, Good, GoodFor, IsFirstShort}
use Rattle.cb_coding.proofs.Distances.{same_where_zero}
use Rattle.cb_codes.specs.Codes.{Coded, AreDifferent}
use Rattle.cb_distance.specs.Chosen.{IsOver, AreOver, AreChosen}
use Rattle.cb_distance.specs.declared.needs.Needs.{Needs}
use Rattle.cb_distance.specs.declared.needs.Needs.TheVariants.{Plain, Capped}
use Rattle.cb_distance.specs.Close.{far, FarBefore, AreAllFar, IsFirstCloseFrom, IsFirstShortIfAny}
use Rattle.cb_distance.specs.Asked.{need_by, most_asked, AreNeedsFor, ShortFits}

abbrev once : Bool → ℕ
once b = cond b 1 0

one_more : (p : ℕ → Bool) (k : ℕ) (ks : List ℕ) → count_by p (k ∷ ks) ≡ once (p k) + count_by p ks
one_more p k ks = sum_by-cons (λ x. once (p x)) k ks

-- what is counted by places is counted by items
counted_same : (f g : ℕ → Bool) (a : ℕ) (xs : List ℕ) → ((k : ℕ) → k < length xs → f (a + k) ≡ g (slice_index_or xs k 0))
    → count_by f (range_with_len a (length xs)) ≡ count_by g xs
counted_same f g a [] each = refl
counted_same f g a (x ∷ xs) each =
    let z : a + 0 ≡ a = omega arith in
    let here : f a ≡ g x = subst (λ i. f i ≡ g x) z (each 0 (omega arith)) in
    let rest = counted_same f g (a + 1) xs (λ k low.
    let e : a + suc k ≡ a + 1 + k = omega arith in
    subst (λ i. f i ≡ g (slice_index_or xs k 0)) e (each (suc k) (omega arith)))
    in
    one_more f a (range_with_len (a + 1) (length xs)) ∙ (ap (λ b. once b + count_by f (range_with_len (a + 1) (length xs))) here
    ∙ (ap (λ m. once (g x) + m) rest ∙ sym (one_more g x xs)))

pub same_distance : (columns : List ℕ) (v w r s : List Bool) → IsOver columns v r → IsOver columns w s
    → distance (all_columns (length columns)) r s ≡ distance columns v w
same_distance columns v w r s over_v over_w =
    counted_same (λ k. differ (bit r k) (bit s k)) (λ k. differ (bit v k) (bit w k)) 0 columns (λ k low.
    let e : 0 + k ≡ k = omega arith in
    subst (λ i. differ (bit r i) (bit s i) ≡ differ (bit v (slice_index_or columns k 0)) (bit w (slice_index_or columns k 0))) (sym e)
    (ap (λ b. differ b (bit s k)) (over_v.each k low) ∙ ap (λ b. differ (bit v (slice_index_or columns k 0)) b) (over_w.each k low)))

zip_at : {X Y : Type 0} (R : X → Y → Type 0) (xs : List X) (ys : List Y) (k : ℕ) (d : X) (e : Y) → AllZip R xs ys → k < length xs
    → R (get_or xs k d) (get_or ys k e)
zip_at R [] [] k d e all low = absurd (omega arith)
zip_at R [] (y ∷ ys) k d e all low = absurd all
zip_at R (x ∷ xs) [] k d e all low = absurd all
zip_at R (x ∷ xs) (y ∷ ys) zero d e all low = all.0
zip_at R (x ∷ xs) (y ∷ ys) (suc k) d e all low = zip_at R xs ys k d e all.1 (omega arith)

zip_lengths : {X Y : Type 0} (R : X → Y → Type 0) (xs : List X) (ys : List Y) → AllZip R xs ys → length xs ≡ length ys
zip_lengths R [] [] all = refl
zip_lengths R [] (y ∷ ys) all = absurd all
zip_lengths R (x ∷ xs) [] all = absurd all
zip_lengths R (x ∷ xs) (y ∷ ys) all = let rest = zip_lengths R xs ys all.1 in omega arith

module _ (columns : List ℕ) (codes rows : List (List Bool)) (over : AreOver columns codes rows) where
  pub same_count : length codes ≡ length rows
  same_count = zip_lengths (IsOver columns) codes rows over

  pub over_width : HaveWidth (length columns) rows
  over_width = λ i d low. let same = same_count in
      let at = zip_at (IsOver columns) codes rows i [] d over (omega arith) in
      at.width

  same_apart : (i j : ℕ) → i < length codes → j < length codes → apart (all_columns (length columns)) rows i j ≡ apart columns codes i j
  same_apart i j low high =
      same_distance columns (code_at codes i) (code_at codes j) (code_at rows i) (code_at rows j)
      (zip_at (IsOver columns) codes rows i [] [] over low) (zip_at (IsOver columns) codes rows j [] [] over high)

  pair_apart : (i j : ℕ) → IsPair codes i j → apart (all_columns (length columns)) rows i j ≡ apart columns codes i j
  pair_apart i j pair = same_apart i j (let a = pair.0 in let b = pair.1 in omega arith) pair.1

  pair_moved : (i j : ℕ) → IsPair codes i j → IsPair rows i j
  pair_moved i j pair = (pair.0, let b = pair.1 in let same = same_count in omega arith)

  pair_back : (i j : ℕ) → IsPair rows i j → IsPair codes i j
  pair_back i j pair = (pair.0, let b = pair.1 in let same = same_count in omega arith)

  -- what is asked of the rows is what is asked of the codes
  abbrev pub AreSameNeeds : (ℕ → ℕ → ℕ) → (ℕ → ℕ → ℕ) → Type 0
  AreSameNeeds ours theirs = (i j : ℕ) → IsPair codes i j → ours i j ≡ theirs i j

  module _ (ours theirs : ℕ → ℕ → ℕ) (same : AreSameNeeds ours theirs) where
    far_enough : (i j : ℕ) → IsPair codes i j → ours i j ≤ apart (all_columns (length columns)) rows i j → theirs i j ≤ apart columns codes i j
    far_enough i j pair enough = subst (λ m. theirs i j ≤ m) (pair_apart i j pair)
        (subst (λ n. n ≤ apart (all_columns (length columns)) rows i j) (same i j pair) enough)

    pub good_moved : GoodFor rows (all_columns (length columns)) ours → GoodFor codes columns theirs
    good_moved good = λ i j pair. far_enough i j pair (good i j (pair_moved i j pair))

    pub first_moved : (p : Pair) → IsFirstShort (all_columns (length columns)) rows ours p → IsFirstShort columns codes theirs p
    first_moved p is =
        let pair = pair_back p.first p.second is.is_pair in
        record {
          is_pair = pair;
          distance = is.distance ∙ pair_apart p.first p.second pair;
          close = subst (λ n. p.distance < n) (same p.first p.second pair) is.close;
          first = λ i j other before. far_enough i j other (is.first i j (pair_moved i j other) before);
        }

    pub any_moved : (found : Option Pair) → IfSome found (IsFirstShort (all_columns (length columns)) rows ours)
        → IfNone found (GoodFor rows (all_columns (length columns)) ours) → IsFirstShortIfAny columns codes theirs found
    any_moved None some none = good_moved none
    any_moved (Some pair) some none = first_moved pair some

-- what is found among the chosen codes
pub any_of_chosen : (columns : List ℕ) (codes : List (List Bool)) (chosen : Coded) (ours theirs : ℕ → ℕ → ℕ) → AreChosen columns codes chosen → ours ≡ theirs
    → (found : Option Pair) → IfSome found (IsFirstShort (all_columns chosen.width) chosen.rows ours)
    → IfNone found (GoodFor chosen.rows (all_columns chosen.width) ours) → IsFirstShortIfAny columns codes theirs found
any_of_chosen columns codes chosen ours theirs are same found some none =
    any_moved columns codes chosen.rows are.over ours theirs (λ i j pair. ap (λ need. need i j) same) found
    (subst (λ n. IfSome found (IsFirstShort (all_columns n) chosen.rows ours)) are.width some)
    (subst (λ n. IfNone found (GoodFor chosen.rows (all_columns n) ours)) are.width none)

pub chosen_count : (columns : List ℕ) (codes : List (List Bool)) (chosen : Coded) → AreChosen columns codes chosen → length codes ≡ length chosen.rows
chosen_count columns codes chosen are = same_count columns codes chosen.rows are.over

-- they are asked of as many codes
pub needs_for_as_many : (codes chosen : Coded) (given : Needs) → length codes.rows ≡ length chosen.rows → AreNeedsFor codes given → AreNeedsFor chosen given
needs_for_as_many codes chosen (Plain d) many are = tt
needs_for_as_many codes chosen (Capped cap whole) many are = are ∙ many

pub asked_most : (given : Needs) (i j : ℕ) → need_by given i j ≤ most_asked given
asked_most (Plain d) i j = omega arith
asked_most (Capped cap whole) i j = omega arith

-- 32 bits tell how far codes are apart that are closer than is asked, if no more is asked
pub short_fits_by_most : (codes : Coded) (given : Needs) → most_asked given < 4294967296 → ShortFits codes (need_by given)
short_fits_by_most codes given few = λ i j short. let most = asked_most given i j in omega arith

pub at_most_all : (n : ℕ) (v w : List Bool) → distance (all_columns n) v w ≤ n
at_most_all n v w =
    let few = count_by-le-length (λ k. differ (bit v k) (bit w k)) (all_columns n) in
    let long = length-range_with_len 0 n in
    omega arith

-- and so they do if they have no more columns
pub short_fits_by_width : (codes : Coded) (need : ℕ → ℕ → ℕ) → codes.width < 4294967296 → ShortFits codes need
short_fits_by_width codes need narrow = λ i j short. let most = at_most_all codes.width (code_at codes.rows i) (code_at codes.rows j) in omega arith

module _ (codes : Coded) (need : ℕ → ℕ → ℕ) where
  pub far_good : (to : ℕ) → FarBefore codes need to → length codes.rows ≤ to → GoodFor codes.rows (all_columns codes.width) need
  far_good to are end = λ i j pair. are i j pair (let a = pair.0 in let b = pair.1 in omega arith)

  pub first_is : (first : ℕ) (pair : Pair) → FarBefore codes need first → IsFirstCloseFrom codes first need pair
      → IsFirstShort (all_columns codes.width) codes.rows need pair
  first_is first pair are is =
      let same = is.first_is in
      record {
        is_pair = (let b = is.close.after in omega arith, is.close.within);
        distance = subst (λ i. pair.distance ≡ far codes i pair.second) (sym same) is.distance_is;
        close = subst (λ i. pair.distance < need i pair.second) (sym same) (let c = is.close.close in let e = is.distance_is in omega arith);
        first = λ i j other before. elim before [
          | inl less ↦ are i j other (omega arith)
          | inr both ↦
              let here : i ≡ first = both.0 ∙ same in
              let less = other.0 in
              subst (λ k. need k j ≤ far codes k j) (sym here) (is.before j (omega arith) both.1)
        ];
      }

  pub far_row_more : (to : ℕ) → FarBefore codes need to → AreAllFar codes to need (length codes.rows) → FarBefore codes need (to + 1)
  far_row_more to are row = λ i j pair low. elim (cases_lt i to) [
    | inl before ↦ are i j pair before
    | inr le ↦
        let same : to ≡ i = omega arith in
        let there = subst (λ k. AreAllFar codes k need (length codes.rows)) same row in
        there j pair.0 pair.1
  ]

-- codes that differ are at least one column apart
pub differ_good : (codes : Coded) (wanted : ℕ) → HaveWidth codes.width codes.rows → AreDifferent codes.rows → wanted ≤ 1 → Good codes.rows (all_columns codes.width) wanted
differ_good codes wanted wide different few i j pair =
    let none : apart (all_columns codes.width) codes.rows i j ≡ 0 → ⊥ = λ zero.
    different i j pair (same_where_zero codes.width (code_at codes.rows i) (code_at codes.rows j) (wide i [] (let lt = pair.0 in let within = pair.1 in omega arith)) (wide j [] pair.1) zero) in
    omega arith

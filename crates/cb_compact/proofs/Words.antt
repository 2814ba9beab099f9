-- What is found and counted over words is found and counted in the rows.
use Rattle.std.proofs.Common.{◌≡◌, ℕ, zero, suc, ◌+◌, ◌-◌, ◌*◌, ◌/◌, ◌%◌, ◌^◌, ◌<◌, ◌≤◌, ◌==◌, ◌&&◌, List, [], length, slice_index_or, bit_and, bit_xor, w64, Bool, true, false, not, refl, sym, ap, subst, ◌∙◌, inl, inr, arith, Option, None, Some}
use Rattle.std.specs.Prelude.{IfSome, IfNone}
use Rattle.std.specs.Int.{bit_not}
use Rattle.std.specs.List.{count_by, sum_by, range_with_len}
use Rattle.std.specs.Simd.Lanes.{zip2}
use Rattle.std.specs.Slice.Scan.{HoldsNowhere}
use Rattle.std.proofs.lemmas.Bool.{cases_lt}
use Rattle.std.proofs.lemmas.List.{get_or_past}
use Rattle.std.proofs.lemmas.List.Sums.{sum_by_push}
use Rattle.std.proofs.lemmas.Nat.{xor_lt}
use Rattle.std.proofs.lemmas.Nat.Bits.{bit_at-zero}
use Rattle.std.proofs.lemmas.Simd.{get_or-zip2}
use mathlib.Core.Bool.{beq}
use Rattle.cb_lanes.specs.Words.{bit_of, in_not, IsNextBit, bit_differs as bits_differ, differing_bits_under as bits_under, word_limit}
use Rattle.cb_lanes.proofs.Zipped.{zip_bit, xor_bits}
use Rattle.cb_bits.specs.Bits.{Packs}
use Rattle.cb_bits.proofs.NextOnes.{all_left}
use Rattle.cb_compact.specs.Compact.{differs, differing_under, IsNextDiffering, DifferNowhereFrom}
use Rattle.cb_compact.proofs.Numbers.{numbers_more}
use Rattle.cb_compact.proofs.Counting.{once, both_false, under_before, under_more, none_under_between}

-- what holds of an answer
pub wherever : (o : Option ℕ) (P Q : ℕ → Type 0) → ((c : ℕ) → P c → Q c) → IfSome o P → IfSome o Q
wherever None P Q to h = h
wherever (Some c) P Q to h = to c h

pub where_none : (o : Option ℕ) (P Q : Type 0) → (P → Q) → IfNone o P → IfNone o Q
where_none None P Q to h = to h
where_none (Some c) P Q to h = h

pub bit_is : (row : List Bool) (words : List ℕ) → Packs row words → (k : ℕ) → bit_of words k ≡ slice_index_or row k false
bit_is row words packs k = elim (cases_lt k (length row)) [
  | inl lt ↦ packs.bits k lt
  | inr past ↦ packs.holds.rest k past ∙ sym (get_or_past row k false past)
]

-- rows of one length have as many words
pub one_count : (v w : List Bool) (a b : List ℕ) → Packs v a → Packs w b → length v ≡ length w → length a ≡ length b
one_count v w a b pv pw same =
    let ea = pv.holds.enough in
    let na = pv.holds.no_more in
    let eb = pw.holds.enough in
    let nb = pw.holds.no_more in
    omega arith

-- and narrow ones have few
pub few_words : (v : List Bool) (a : List ℕ) → Packs v a → length v ≤ 4294967232 → length a ≤ word_limit
few_words v a pv narrow = let n = pv.holds.no_more in omega arith

-- the word at a place has the bits at which the two differ
pub xor_at : (a b : List ℕ) → length a ≡ length b → (i : ℕ) → i < length a
    → slice_index_or (zip2 bit_xor a b) i 0 ≡ bit_xor (slice_index_or a i 0) (slice_index_or b i 0)
xor_at a b same i lt = get_or-zip2 bit_xor a b i 0 0 0 lt (omega arith)

pub xor_fits : (a b : List ℕ) → length a ≡ length b → (i : ℕ) → i < length a → slice_index_or a i 0 < 2 ^ 64 → slice_index_or b i 0 < 2 ^ 64
    → slice_index_or (zip2 bit_xor a b) i 0 < 2 ^ 64
xor_fits a b same i lt one other = subst (λ w. w < 2 ^ 64) (sym (xor_at a b same i lt)) (xor_lt 64 (slice_index_or a i 0) (slice_index_or b i 0) one other)

-- what is left of it from the start on
pub left_is : (a b : List ℕ) → length a ≡ length b → (i start : ℕ) → i < length a → slice_index_or a i 0 < 2 ^ 64 → slice_index_or b i 0 < 2 ^ 64
    → bit_and (slice_index_or (zip2 bit_xor a b) i 0) (bit_not w64 0) / 2 ^ (start % 64) ≡ bit_xor (slice_index_or a i 0) (slice_index_or b i 0) / 2 ^ (start % 64)
left_is a b same i start lt one other =
    ap (λ w. w / 2 ^ (start % 64)) (all_left (slice_index_or (zip2 bit_xor a b) i 0) (xor_fits a b same i lt one other) ∙ xor_at a b same i lt)

and_true : (b : Bool) → (b && true) ≡ b
and_true true = refl
and_true false = refl

module _ (v w : List Bool) (a b : List ℕ) (pv : Packs v a) (pw : Packs w b) (words : length a ≡ length b) (same : length v ≡ length w) where
  differs_is : (k : ℕ) → in_not (zip2 bit_xor a b) [] k ≡ differs v w k
  differs_is k =
      ap (λ n. bit_of (zip2 bit_xor a b) k && not (n == 1)) (bit_at-zero (k % 64)) ∙ and_true (bit_of (zip2 bit_xor a b) k)
      ∙ zip_bit bit_xor (λ x y. not (beq x y)) refl xor_bits a b words k
      ∙ ap (λ x. not (beq x (bit_of b k))) (bit_is v a pv k) ∙ ap (λ y. not (beq (slice_index_or v k false) y)) (bit_is w b pw k)

  pub next_is : (from k : ℕ) → IsNextBit (zip2 bit_xor a b) [] from k → IsNextDiffering v w from k
  next_is from k next = record {
    on = next.on;
    is = sym (differs_is k) ∙ next.is;
    first = λ j low high. sym (differs_is j) ∙ next.first j low high;
  }

  pub none_is : (from : ℕ) → HoldsNowhere (in_not (zip2 bit_xor a b) []) from (64 * length a) → DifferNowhereFrom v w from
  none_is from none k low = elim (cases_lt k (length v)) [
    | inl lt ↦ sym (differs_is k) ∙ none k low (let enough = pv.holds.enough in omega arith)
    | inr past ↦ both_false v w k (get_or_past v k false past) (get_or_past w k false (omega arith))
  ]

turned : (x y : Bool) → once (x && y) ≡ once (y && x)
turned true true = refl
turned true false = refl
turned false true = refl
turned false false = refl

module _ (v w mask : List Bool) (a b m : List ℕ) (pv : Packs v a) (pw : Packs w b) (pm : Packs mask m) where
  abbrev counts : ℕ → Bool
  counts k = bits_differ a b k && bit_of m k

  here : (k : ℕ) → once (counts k) ≡ once (slice_index_or mask k false && differs v w k)
  here k =
      ap (λ x. once (not (beq x (bit_of b k)) && bit_of m k)) (bit_is v a pv k)
      ∙ ap (λ y. once (not (beq (slice_index_or v k false) y) && bit_of m k)) (bit_is w b pw k)
      ∙ ap (λ z. once (differs v w k && z)) (bit_is mask m pm k)
      ∙ turned (differs v w k) (slice_index_or mask k false)

  one_more : (n : ℕ) → count_by counts (range_with_len 0 (n + 1)) ≡ count_by counts (range_with_len 0 n) + once (counts n)
  one_more n =
      let tests : ℕ → ℕ = λ k. once (counts k) in
      ap (sum_by tests) (numbers_more n) ∙ sum_by_push tests (range_with_len 0 n) n

  below : (n : ℕ) → count_by counts (range_with_len 0 n) ≡ under_before mask v w n
  below zero = refl
  below (suc n) =
      let last : suc n ≡ n + 1 = omega arith in
      let left = ap (λ k. count_by counts (range_with_len 0 k)) last ∙ one_more n in
      let right = ap (under_before mask v w) last ∙ under_more mask v w n in
      let same = here n in
      let rest = below n in
      omega arith

  -- at how many ones of the mask two rows differ
  pub under_is : length v ≡ length mask → length w ≡ length mask → bits_under a b m ≡ differing_under mask v w
  under_is same same' =
      let enough = pv.holds.enough in
      below (64 * length a)
      ∙ none_under_between mask v w (64 * length a - length mask) (length mask) (64 * length a) (omega arith)
      (λ k late early. both_false v w k (get_or_past v k false (omega arith)) (get_or_past w k false (omega arith)))

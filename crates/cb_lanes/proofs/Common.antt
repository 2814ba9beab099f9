-- Bits that two rows have in common.
use Rattle.std.proofs.Common.{◌≡◌, ◌≢◌, ◌⊎◌, ℕ, zero, suc, ◌+◌, ◌*◌, ◌/◌, ◌%◌, ◌<◌, ◌==◌, ◌^◌, min, true, List, length, slice_index_or, bit_and, refl, sym, ap, subst, ◌∙◌, inl, inr, w64, arith}
use Rattle.std.specs.Int.{bit_at, trailing_zeros}
use Rattle.std.proofs.lemmas.Bool.{cases_lt, cases_eq}
use Rattle.std.proofs.lemmas.List.{get_or_past}
use Rattle.std.proofs.lemmas.Nat.{and_le_l}
use Rattle.std.proofs.lemmas.Nat.Bits.{bit_at_and, bit_at-lt, bit_at-zero, bit_at-trailing_zeros}
use Rattle.cb_lanes.specs.Words.{HaveCommonBit}
use Rattle.cb_lanes.specs.Parts.{WordsApart}
use Rattle.cb_lanes.proofs.Alike.{bit_there}
use Rattle.cb_lanes.proofs.Digits.{each_two}

both_one : (x y : ℕ) → x < 2 → y < 2 → min x y ≡ 1 → (x ≡ 1) × (y ≡ 1)
both_one = each_two (λ x y. min x y ≡ 1 → (x ≡ 1) × (y ≡ 1)) (λ e. absurd (cc)) (λ e. absurd (cc)) (λ e. absurd (cc)) (λ e. (refl, refl))

true_is_one : (x : ℕ) → x < 2 → (x == 1) ≡ true → x ≡ 1
true_is_one x lt = each_two (λ x y. (x == 1) ≡ true → x ≡ 1) (λ e. absurd (cc)) (λ e. absurd (cc)) (λ e. refl) (λ e. refl) x x lt lt

-- two words that are not apart have a bit in common
common_here : (a b : List ℕ) (j : ℕ) → slice_index_or a j 0 < 2 ^ 64 → bit_and (slice_index_or a j 0) (slice_index_or b j 0) ≢ 0 → HaveCommonBit a b
common_here a b j fits some =
    let v = slice_index_or a j 0 in
    let w = slice_index_or b j 0 in
    let i = trailing_zeros w64 (bit_and v w) in
    let lowest = bit_at-trailing_zeros w64 (bit_and v w) (omega arith) (let e = and_le_l v w in omega arith) in
    let bits = both_one (bit_at v i) (bit_at w i) (bit_at-lt v i) (bit_at-lt w i) (sym (bit_at_and v w i) ∙ lowest.1) in
    (64 * j + i, bit_there a j i lowest.0 ∙ ap (λ b. b == 1) bits.0, bit_there b j i lowest.0 ∙ ap (λ b. b == 1) bits.1)

-- either some bit is in both, or the words are apart, and nowhere is a bit in both then
pub common_or_apart : (a b : List ℕ) → ((k : ℕ) → slice_index_or a k 0 < 2 ^ 64) → (from end : ℕ) → HaveCommonBit a b ⊎ WordsApart a b from end
common_or_apart a b fits from zero = inr (λ k low high. absurd (omega arith))
common_or_apart a b fits from (suc n) = elim (cases_eq (bit_and (slice_index_or a n 0) (slice_index_or b n 0)) 0) [
  | inr some ↦ inl (common_here a b n (fits n) some)
  | inl none ↦ elim (common_or_apart a b fits from n) [
    | inl common ↦ inl common
    | inr apart ↦ inr (λ k low high. elim (cases_lt k n) [
      | inl lt ↦ apart k low lt
      | inr le ↦ let e : n ≡ k = omega arith in subst (λ j. bit_and (slice_index_or a j 0) (slice_index_or b j 0) ≡ 0) e none
    ])
  ]
]

pub apart_everywhere : (a b : List ℕ) → ((k : ℕ) → slice_index_or a k 0 < 2 ^ 64) → ¬ HaveCommonBit a b → (from end : ℕ) → WordsApart a b from end
apart_everywhere a b fits none from end k low high = elim (cases_eq (bit_and (slice_index_or a k 0) (slice_index_or b k 0)) 0) [
  | inl apart ↦ apart
  | inr some ↦ absurd (none (common_here a b k (fits k) some))
]

-- where all words are apart, no bit is in both
pub none_common : (a b : List ℕ) → WordsApart a b 0 (length a) → ¬ HaveCommonBit a b
none_common a b apart (k, in_a, in_b) =
    let v = slice_index_or a (k / 64) 0 in
    let w = slice_index_or b (k / 64) 0 in
    let one_a = true_is_one (bit_at v (k % 64)) (bit_at-lt v (k % 64)) in_a in
    let one_b = true_is_one (bit_at w (k % 64)) (bit_at-lt w (k % 64)) in_b in
    elim (cases_lt (k / 64) (length a)) [
      | inl lt ↦
          let e = bit_at_and v w (k % 64) in
          let f = ap (λ n. bit_at n (k % 64)) (apart (k / 64) (omega arith) lt) in
          let z = bit_at-zero (k % 64) in
          omega arith
      | inr le ↦
          let f = ap (λ n. bit_at n (k % 64)) (get_or_past a (k / 64) 0 le) in
          let z = bit_at-zero (k % 64) in
          omega arith
    ]

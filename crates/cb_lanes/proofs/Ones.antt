-- The ones of words, word by word and bit by bit.
use Rattle.std.proofs.Common.{◌≡◌, ℕ, suc, ◌+◌, ◌*◌, ◌/◌, ◌%◌, ◌^◌, ◌<◌, ◌≤◌, ◌==◌, ◌&&◌, cond, Bool, false, not, List, [], ◌∷◌, length, map, slice_index_or, bit_and, bit_xor, refl, sym, ap, subst, ◌∙◌, arith}
use Rattle.std.specs.Prelude.{count_ones}
use Rattle.std.specs.Int.{bit_at}
use Rattle.std.specs.List.{count_by, sum_by, range_with_len}
use Rattle.std.specs.Simd.Lanes.{mask_l, zip2}
use Rattle.std.proofs.lemmas.List.Sums.{sum_by-cons, count_by-le-length}
use Rattle.std.proofs.lemmas.List.FromFn.{length-range_with_len, length-map-range_with_len, get_or-map-range_with_len}
use Rattle.std.proofs.lemmas.Simd.{ones-mask_l, bit_mask_l, mask_l-lt, length-zip2, get_or-zip2}
use Rattle.std.proofs.lemmas.Nat.{xor_lt, and_le_l}
use Rattle.std.proofs.lemmas.Nat.Bits.{same_from_bits_below, bit_at-lt}
use mathlib.Core.Bool.{beq}
use Rattle.cb_lanes.specs.Words.{bit_of, count_bits, bit_differs, differing_bits, differing_bits_under, word_limit}
use Rattle.cb_lanes.proofs.Digits.{each_digit}
use Rattle.cb_lanes.proofs.Totals.{total, total_parts, total_alike}
use Rattle.cb_lanes.proofs.Zipped.{zip_bit, xor_bits, and_bits}

-- a truth value as a number, and the bits that words have
abbrev pub digit : List ℕ → ℕ → ℕ
digit words k = cond (bit_of words k) 1 0

-- the 64 bits of a word
abbrev pub bits_of : ℕ → List Bool
bits_of word = map (λ i. bit_at word i == 1) (range_with_len 0 64)

as_digit : (b : ℕ) → b < 2 → cond (b == 1) 1 0 ≡ b
as_digit = each_digit (λ b. cond (b == 1) 1 0 ≡ b) refl refl

-- a word is the mask of its bits
mask_of_bits : (word : ℕ) → word < 2 ^ 64 → mask_l (bits_of word) ≡ word
mask_of_bits word fits =
    let long = length-map-range_with_len (λ i. bit_at word i == 1) 0 64 in
    same_from_bits_below 64 (mask_l (bits_of word)) word (subst (λ n. mask_l (bits_of word) < 2 ^ n) long (mask_l-lt (bits_of word))) fits
    (λ i lt. bit_mask_l (bits_of word) i
    ∙ ap (λ b. cond b 1 0) (get_or-map-range_with_len (λ k. bit_at word k == 1) 0 64 i i false lt (omega arith))
    ∙ as_digit (bit_at word i) (bit_at-lt word i))

pub ones_of_word : (word : ℕ) → word < 2 ^ 64 → count_ones word ≡ count_by (λ i. bit_at word i == 1) (range_with_len 0 64)
ones_of_word word fits = ap count_ones (sym (mask_of_bits word fits)) ∙ ones-mask_l (λ i. bit_at word i == 1) (range_with_len 0 64)

-- the bits of a first word, and those of the others
first_bit : (w : ℕ) (ws : List ℕ) (i : ℕ) → i < 64 → bit_of (w ∷ ws) i ≡ bit_at w i == 1
first_bit w ws i lt =
    let word : i / 64 ≡ 0 = omega arith in
    let bit : i % 64 ≡ i = omega arith in
    ap (λ k. bit_at (slice_index_or (w ∷ ws) k 0) (i % 64) == 1) word ∙ ap (λ k. bit_at w k == 1) bit

later_bit : (w : ℕ) (ws : List ℕ) (i : ℕ) → bit_of (w ∷ ws) (64 + i) ≡ bit_of ws i
later_bit w ws i =
    let word : (64 + i) / 64 ≡ suc (i / 64) = omega arith in
    let bit : (64 + i) % 64 ≡ i % 64 = omega arith in
    ap (λ k. bit_at (slice_index_or (w ∷ ws) k 0) ((64 + i) % 64) == 1) word ∙ ap (λ k. bit_at (slice_index_or ws (i / 64) 0) k == 1) bit

-- all ones of the words
pub ones_of_words : (words : List ℕ) → ((k : ℕ) → k < length words → slice_index_or words k 0 < 2 ^ 64)
    → sum_by count_ones words ≡ total (digit words) 0 (64 * length words)
ones_of_words [] fits = refl
ones_of_words (w ∷ ws) fits =
    let sum = sum_by-cons count_ones w ws in
    let here = ones_of_word w (fits 0 (omega arith)) in
    let rest = ones_of_words ws (λ k lt. fits (suc k) (omega arith)) in
    let length_is : 64 * length (w ∷ ws) ≡ 64 + 64 * length ws = omega arith in
    let split = ap (total (digit (w ∷ ws)) 0) length_is ∙ total_parts (digit (w ∷ ws)) 0 64 (64 * length ws) in
    let first = total_alike (digit (w ∷ ws)) (λ i. cond (bit_at w i == 1) 1 0) 0 0 64 (λ i lt. ap (λ b. cond b 1 0) (let e : 0 + i ≡ i = omega arith in ap (bit_of (w ∷ ws)) e ∙ first_bit w ws i lt ∙ sym (ap (λ k. bit_at w k == 1) e))) in
    let others = total_alike (digit (w ∷ ws)) (digit ws) (0 + 64) 0 (64 * length ws) (λ i lt. ap (λ b. cond b 1 0) (later_bit w ws i ∙ (let e : i ≡ 0 + i = omega arith in ap (bit_of ws) e))) in
    omega arith

-- the same of words that differ
pub ones_of_zip : (a b : List ℕ) → length a ≡ length b → ((k : ℕ) → slice_index_or a k 0 < 2 ^ 64) → ((k : ℕ) → slice_index_or b k 0 < 2 ^ 64)
    → sum_by count_ones (zip2 bit_xor a b) ≡ count_bits (zip2 bit_xor a b)
ones_of_zip a b same fits_a fits_b =
    let long = length-zip2 bit_xor a b same in
    ones_of_words (zip2 bit_xor a b)
    (λ k lt. subst (λ w. w < 2 ^ 64) (sym (get_or-zip2 bit_xor a b k 0 0 0 (omega arith) (omega arith))) (xor_lt 64 _ _ (fits_a k) (fits_b k)))

-- words within the limit have fewer than 2 ^ 32 bits
pub few_bits : (words : List ℕ) → length words ≤ word_limit → count_bits words < 2 ^ 32
few_bits words few = let e = count_by-le-length (bit_of words) (range_with_len 0 (64 * length words)) in let f = length-range_with_len 0 (64 * length words) in omega arith

-- tests that agree on the first bits count the same
count_alike : (p q : ℕ → Bool) (m n : ℕ) → m ≡ n → ((k : ℕ) → p k ≡ q k) → count_by p (range_with_len 0 m) ≡ count_by q (range_with_len 0 n)
count_alike p q m n same each =
    ap (λ i. count_by p (range_with_len 0 i)) same
    ∙ total_alike (λ k. cond (p k) 1 0) (λ k. cond (q k) 1 0) 0 0 n (λ i lt. ap (λ b. cond b 1 0) (each (0 + i)))

-- the bits where two rows differ are the ones of the words where they do
pub differing_is : (a b : List ℕ) → length a ≡ length b → count_bits (zip2 bit_xor a b) ≡ differing_bits a b
differing_is a b same =
    let long = length-zip2 bit_xor a b same in
    count_alike (bit_of (zip2 bit_xor a b)) (bit_differs a b) (64 * length (zip2 bit_xor a b)) (64 * length a) (ap (λ n. 64 * n) long)
    (zip_bit bit_xor (λ x y. not (beq x y)) refl xor_bits a b same)

module _ (a b mask : List ℕ) (same : length a ≡ length b) (masked : length a ≡ length mask) (fits_a : (k : ℕ) → slice_index_or a k 0 < 2 ^ 64)
    (fits_b : (k : ℕ) → slice_index_or b k 0 < 2 ^ 64) where
  abbrev both : List ℕ
  both = zip2 bit_and (zip2 bit_xor a b) mask

  pub long_xor : length (zip2 bit_xor a b) ≡ length mask
  long_xor = length-zip2 bit_xor a b same ∙ masked

  pub long_both : length both ≡ length a
  long_both = length-zip2 bit_and (zip2 bit_xor a b) mask long_xor ∙ length-zip2 bit_xor a b same

  pub word_both : (i : ℕ) → i < length a → slice_index_or (zip2 bit_xor a b) i 0 ≡ bit_xor (slice_index_or a i 0) (slice_index_or b i 0)
  word_both i lt = get_or-zip2 bit_xor a b i 0 0 0 lt (omega arith)

  pub ones_under : sum_by count_ones both ≡ count_bits both
  ones_under =
      let long = length-zip2 bit_xor a b same in
      let all = length-zip2 bit_and (zip2 bit_xor a b) mask long_xor in
      ones_of_words both (λ k lt.
      subst (λ w. w < 2 ^ 64) (sym (get_or-zip2 bit_and (zip2 bit_xor a b) mask k 0 0 0 (omega arith) (omega arith)))
      (let e = and_le_l (slice_index_or (zip2 bit_xor a b) k 0) (slice_index_or mask k 0) in
      let f = xor_lt 64 (slice_index_or a k 0) (slice_index_or b k 0) (fits_a k) (fits_b k) in
      let g = word_both k (omega arith) in
      omega arith))

  -- the bits where two rows differ under a mask
  pub under_is : count_bits both ≡ differing_bits_under a b mask
  under_is =
      count_alike (bit_of both) (λ k. bit_differs a b k && bit_of mask k) (64 * length both) (64 * length a) (ap (λ n. 64 * n) long_both)
      (λ k. zip_bit bit_and (λ x y. x && y) refl and_bits (zip2 bit_xor a b) mask long_xor k
      ∙ ap (λ x. x && bit_of mask k) (zip_bit bit_xor (λ x y. not (beq x y)) refl xor_bits a b same k))

-- Words that are made of two lists of words, one by one.
use Rattle.std.proofs.Common.{◌≡◌, ℕ, ◌<◌, ◌==◌, ◌||◌, ◌^◌, Bool, false, not, cond, List, length, slice_index_or, bit_or, bit_xor, inl, inr, sym, ap, subst, ◌∙◌, refl, arith}
use Rattle.std.specs.Int.{bit_at}
use Rattle.std.specs.Simd.Lanes.{zip2}
use Rattle.std.proofs.lemmas.Bool.{cases_lt}
use Rattle.std.proofs.lemmas.Simd.{length-zip2, get_or-zip2}
use Rattle.std.specs.List.{count_by, range_with_len}
use Rattle.std.proofs.lemmas.List.FromFn.{fill_by_all}
use mathlib.Core.Bool.{beq}
use Rattle.cb_lanes.specs.Words.{bit_of, count_bits}
use Rattle.cb_lanes.proofs.Alike.{words_alike}
use Rattle.cb_lanes.proofs.Zipped.{zip_bit, or_bits, xor_bits}
use Rattle.cb_bits.specs.Bits.{values, differing, Holds}
use Rattle.cb_bits.proofs.Totals.{sum_by-map}
use Rattle.cb_bits.proofs.Counted.{true_values, few_bits}
use Rattle.cb_bits.proofs.Values.{values-are, row_len, row_bit}

-- f of two words has the bits g of their bits, which keeps zeros
module _ (f : ℕ → ℕ → ℕ) (g : Bool → Bool → Bool) (of_zeros : g false false ≡ false)
    (bits : (v w i : ℕ) → (bit_at (f v w) i == 1) ≡ g (bit_at v i == 1) (bit_at w i == 1)) where
  pub zip_holds : (a b : List ℕ) (n : ℕ) → length a ≡ length b → Holds a n → Holds b n → Holds (zip2 f a b) n
  zip_holds a b n same ha hb =
      let long = length-zip2 f a b same in
      record {
        fits = ha.fits;
        enough = let e = ha.enough in omega arith;
        no_more = let e = ha.no_more in omega arith;
        rest = λ k le. zip_bit f g of_zeros bits a b same k ∙ ap (λ x. g x (bit_of b k)) (ha.rest k le) ∙ ap (g false) (hb.rest k le) ∙ of_zeros;
      }

  pub zip_values : (a b : List ℕ) (n : ℕ) (v w : List Bool) → length a ≡ length b → values a n ≡ v → values b n ≡ w → values (zip2 f a b) n ≡ zip2 g v w
  zip_values a b n v w same is_v is_w =
      let lv = row_len a n v is_v in
      let lw = row_len b n w is_w in
      let both : length v ≡ length w = lv ∙ sym lw in
      values-are (zip2 f a b) n (zip2 g v w) (length-zip2 g v w both ∙ lv)
      (λ k lt. zip_bit f g of_zeros bits a b same k
      ∙ ap (λ x. g x (bit_of b k)) (row_bit a n v is_v k lt)
      ∙ ap (g (slice_index_or v k false)) (row_bit b n w is_w k lt)
      ∙ sym (get_or-zip2 g v w k false false false (omega arith) (omega arith)))

-- what holds of two lists of words holds of slices that are those
pub through : (a b v w : List ℕ) (P : List ℕ → List ℕ → Type 0) → v ≡ a → w ≡ b → P a b → P v w
through a b v w P is_a is_b holds = subst (λ x. P x w) (sym is_a) (subst (P a) (sym is_b) holds)

-- two rows of one length, in words
module _ (a b : List ℕ) (n m : ℕ) (v w : List Bool) (ha : Holds a n) (hb : Holds b m) (is_v : values a n ≡ v) (is_w : values b m ≡ w)
    (same : length v ≡ length w) where
  one_len : n ≡ m
  one_len = sym (row_len a n v is_v) ∙ same ∙ row_len b m w is_w

  pub one_count : length a ≡ length b
  one_count =
      let ea = ha.enough in
      let na = ha.no_more in
      let eb = hb.enough in
      let nb = hb.no_more in
      let e = one_len in
      omega arith

  b_holds : Holds b n
  b_holds = subst (λ k. Holds b k) (sym one_len) hb

  b_is : values b n ≡ w
  b_is = subst (λ k. values b k ≡ w) (sym one_len) is_w

  pub or_holds : Holds (zip2 bit_or a b) n
  or_holds = zip_holds bit_or (λ x y. x || y) refl or_bits a b n one_count ha b_holds

  pub or_values : values (zip2 bit_or a b) n ≡ zip2 (λ x y. x || y) v w
  or_values = zip_values bit_or (λ x y. x || y) refl or_bits a b n v w one_count is_v b_is

  pub xor_holds : Holds (zip2 bit_xor a b) n
  xor_holds = zip_holds bit_xor (λ x y. not (beq x y)) refl xor_bits a b n one_count ha b_holds

  pub xor_values : values (zip2 bit_xor a b) n ≡ zip2 (λ x y. not (beq x y)) v w
  xor_values = zip_values bit_xor (λ x y. not (beq x y)) refl xor_bits a b n v w one_count is_v b_is

  -- the rows differ where their words do
  pub xor_count : count_bits (zip2 bit_xor a b) ≡ differing v w
  xor_count =
      true_values (zip2 bit_xor a b) n (zip2 (λ x y. not (beq x y)) v w) xor_values xor_holds
      ∙ ap (count_by (λ x. x)) (fill_by_all (λ k. not (beq (slice_index_or v k false) (slice_index_or w k false))) (zip2 (λ x y. not (beq x y)) v w) (length v) false
      (length-zip2 (λ x y. not (beq x y)) v w same)
      (λ k lt. get_or-zip2 (λ x y. not (beq x y)) v w k false false false lt (omega arith)))
      ∙ sum_by-map (λ x. cond x 1 0) (λ k. not (beq (slice_index_or v k false) (slice_index_or w k false))) (range_with_len 0 (length v))

  pub xor_few : count_bits (zip2 bit_xor a b) < 2 ^ 64
  xor_few = few_bits (zip2 bit_xor a b) n (zip2 (λ x y. not (beq x y)) v w) xor_values xor_holds

  -- the rows are one exactly where their words have the same bits
  pub same_bits : v ≡ w → (k : ℕ) → bit_of a k ≡ bit_of b k
  same_bits e k = elim (cases_lt k n) [
    | inl lt ↦ row_bit a n v is_v k lt ∙ ap (λ r. slice_index_or r k false) e ∙ sym (row_bit b n w b_is k lt)
    | inr le ↦ ha.rest k le ∙ sym (b_holds.rest k le)
  ]

  pub same_words : ((k : ℕ) → slice_index_or a k 0 < 2 ^ 64) → ((k : ℕ) → slice_index_or b k 0 < 2 ^ 64) → v ≡ w → a ≡ b
  same_words fits_a fits_b e = words_alike a b one_count fits_a fits_b (same_bits e)

  pub same_values : a ≡ b → v ≡ w
  same_values same = sym is_v ∙ ap (λ words. values words n) same ∙ b_is

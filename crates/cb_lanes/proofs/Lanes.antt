-- Four words at a time.
use Rattle.std.proofs.Common.{◌≡◌, ℕ, zero, suc, ◌+◌, ◌-◌, ◌%◌, ◌<◌, ◌≤◌, ◌^◌, List, [], ◌∷◌, length, slice_index_or, bit_or, bit_xor, refl, sym, ap, subst, ◌∙◌, inl, inr, arith}
use Rattle.std.specs.Int.{bit_at}
use Rattle.std.specs.Int.Bits.{xor_self}
use Rattle.std.specs.Simd.Lanes.{chunk, fold_l, zip2}
use Rattle.std.proofs.lemmas.Bool.{cases_lt}
use Rattle.std.proofs.lemmas.List.{get_or_past}
use Rattle.std.proofs.lemmas.Nat.{le_or_l, le_or_r}
use Rattle.std.proofs.lemmas.Nat.Bits.{bit_at_xor, bit_at-lt, bit_at-zero, same_from_bits_below}
use Rattle.std.proofs.lemmas.Simd.{length-zip2, get_or-zip2, length-chunk, get_or-chunk}
use Rattle.cb_lanes.specs.Parts.{SameWords}
use Rattle.cb_lanes.proofs.Digits.{each_two}

at_each : (w : ℕ) (ws : List ℕ) → w ≡ 0 → ((k : ℕ) → slice_index_or ws k 0 ≡ 0) → (k : ℕ) → slice_index_or (w ∷ ws) k 0 ≡ 0
at_each w ws first others zero = first
at_each w ws first others (suc k) = others k

-- where the union of words is zero, each of them is
all_zero : (so_far : ℕ) (words : List ℕ) → fold_l bit_or so_far words ≡ 0 → (so_far ≡ 0) × ((k : ℕ) → slice_index_or words k 0 ≡ 0)
all_zero so_far [] none = (none, λ k. get_or_past {X = ℕ} [] k 0 (omega arith))
all_zero so_far (w ∷ ws) none =
    let rest = all_zero (bit_or so_far w) ws none in
    let left = le_or_l so_far w in
    let right = le_or_r so_far w in
    let first = rest.0 in
    (omega arith, at_each w ws (omega arith) rest.1)

zeros_unite : (words : List ℕ) → ((k : ℕ) → slice_index_or words k 0 ≡ 0) → fold_l bit_or 0 words ≡ 0
zeros_unite [] each = refl
zeros_unite (w ∷ ws) each = ap (λ v. fold_l bit_or (bit_or 0 v) ws) (each zero) ∙ zeros_unite ws (λ k. each (suc k))

same_digit : (x y : ℕ) → x < 2 → y < 2 → (x + y) % 2 ≡ 0 → x ≡ y
same_digit = each_two (λ x y. (x + y) % 2 ≡ 0 → x ≡ y) (λ e. refl) (λ e. absurd (cc)) (λ e. absurd (cc)) (λ e. refl)

-- words that differ nowhere are the same
xor_zero : (v w : ℕ) → v < 2 ^ 64 → w < 2 ^ 64 → bit_xor v w ≡ 0 → v ≡ w
xor_zero v w fits_v fits_w none = same_from_bits_below 64 v w fits_v fits_w (λ i lt.
    same_digit (bit_at v i) (bit_at w i) (bit_at-lt v i) (bit_at-lt w i)
    (sym (bit_at_xor v w i) ∙ ap (λ n. bit_at n i) none ∙ bit_at-zero i))

-- f of four words of each row
module _ (f : ℕ → ℕ → ℕ) (a b : List ℕ) (at : ℕ) (fit_a : at + 4 ≤ length a) (fit_b : at + 4 ≤ length b) where
  abbrev four : List ℕ
  four = zip2 f (chunk at 4 a) (chunk at 4 b)

  long_a : length (chunk at 4 a) ≡ 4
  long_a = length-chunk at 4 a fit_a

  long_b : length (chunk at 4 b) ≡ 4
  long_b = length-chunk at 4 b fit_b

  word : (k : ℕ) → k < 4 → slice_index_or four k 0 ≡ f (slice_index_or a (at + k) 0) (slice_index_or b (at + k) 0)
  word k lt =
      let la = long_a in
      let lb = long_b in
      get_or-zip2 f (chunk at 4 a) (chunk at 4 b) k 0 0 0 (omega arith) (omega arith)
      ∙ ap (λ w. f w (slice_index_or (chunk at 4 b) k 0)) (get_or-chunk at 4 a k 0 lt)
      ∙ ap (f (slice_index_or a (at + k) 0)) (get_or-chunk at 4 b k 0 lt)

  pub none_here : fold_l bit_or 0 four ≡ 0 → (k : ℕ) → at ≤ k → k < at + 4 → f (slice_index_or a k 0) (slice_index_or b k 0) ≡ 0
  none_here none k low high =
      let e : at + (k - at) ≡ k = omega arith in
      subst (λ n. f (slice_index_or a n 0) (slice_index_or b n 0) ≡ 0) e (sym (word (k - at) (omega arith)) ∙ (all_zero 0 four none).1 (k - at))

  pub here_none : ((k : ℕ) → at ≤ k → k < at + 4 → f (slice_index_or a k 0) (slice_index_or b k 0) ≡ 0) → fold_l bit_or 0 four ≡ 0
  here_none each =
      let la = long_a in
      let lb = long_b in
      let lf = length-zip2 f (chunk at 4 a) (chunk at 4 b) (la ∙ sym lb) in
      zeros_unite four (λ k. elim (cases_lt k 4) [
        | inl lt ↦ word k lt ∙ each (at + k) (omega arith) (omega arith)
        | inr le ↦ get_or_past four k 0 (omega arith)
      ])

-- the same of words that are to be the same
module _ (a b : List ℕ) (at : ℕ) (fit_a : at + 4 ≤ length a) (fit_b : at + 4 ≤ length b) where
  pub same_here : ((k : ℕ) → slice_index_or a k 0 < 2 ^ 64) → ((k : ℕ) → slice_index_or b k 0 < 2 ^ 64)
      → fold_l bit_or 0 (zip2 bit_xor (chunk at 4 a) (chunk at 4 b)) ≡ 0 → SameWords a b at (at + 4)
  same_here fits_a fits_b none k low high = xor_zero (slice_index_or a k 0) (slice_index_or b k 0) (fits_a k) (fits_b k) (none_here bit_xor a b at fit_a fit_b none k low high)

  pub here_same : SameWords a b at (at + 4) → fold_l bit_or 0 (zip2 bit_xor (chunk at 4 a) (chunk at 4 b)) ≡ 0
  here_same same = here_none bit_xor a b at fit_a fit_b (λ k low high. ap (λ w. bit_xor w (slice_index_or b k 0)) (same k low high) ∙ xor_self (slice_index_or b k 0))

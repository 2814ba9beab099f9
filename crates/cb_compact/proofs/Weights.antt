-- How many ones two rows have, and at how many places they differ.
use Rattle.std.proofs.Common.{◌≡◌, ℕ, zero, suc, ◌+◌, ◌≤◌, List, Bool, true, false, not, length, slice_index_or, ap, ◌∙◌, arith}
use Rattle.std.specs.List.{count_by, sum_by, range_with_len}
use Rattle.std.proofs.lemmas.List.Sums.{sum_by_push}
use mathlib.Core.Bool.{beq}
use Rattle.cb_bits.specs.Bits.{differing}
use Rattle.cb_compact.specs.Compact.{differing_before}
use Rattle.cb_compact.proofs.Counting.{once, before_more}
use Rattle.cb_compact.proofs.Numbers.{numbers_more}
use Rattle.cb_compact.proofs.Ones.{by_places}

abbrev ones : List Bool → ℕ
ones row = count_by (λ value. value) row

-- of the first n values
abbrev ones_until : List Bool → ℕ → ℕ
ones_until row n = count_by (λ k. slice_index_or row k false) (range_with_len 0 n)

one_further : (row : List Bool) (n : ℕ) → ones_until row (n + 1) ≡ ones_until row n + once (slice_index_or row n false)
one_further row n =
    let digit : ℕ → ℕ = λ k. once (slice_index_or row k false) in
    ap (sum_by digit) (numbers_more n) ∙ sum_by_push digit (range_with_len 0 n) n

here_near : (a b : Bool) → (once a ≤ once b + once (not (beq a b))) × (once b ≤ once a + once (not (beq a b)))
here_near true true = (omega arith, omega arith)
here_near true false = (omega arith, omega arith)
here_near false true = (omega arith, omega arith)
here_near false false = (omega arith, omega arith)

module _ (v w : List Bool) where
  near_until : (n : ℕ) → (ones_until v n ≤ ones_until w n + differing_before n v w) × (ones_until w n ≤ ones_until v n + differing_before n v w)
  near_until zero = (omega arith, omega arith)
  near_until (suc n) =
      let e : suc n ≡ n + 1 = omega arith in
      let left = ap (ones_until v) e ∙ one_further v n in
      let right = ap (ones_until w) e ∙ one_further w n in
      let both = ap (λ m. differing_before m v w) e ∙ before_more v w n in
      let here = here_near (slice_index_or v n false) (slice_index_or w n false) in
      let rest = near_until n in
      let one = here.0 in
      let other = here.1 in
      let first = rest.0 in
      let second = rest.1 in
      (omega arith, omega arith)

  -- rows differ at no fewer places than one has more ones than the other
  pub near : length v ≡ length w → (ones v ≤ ones w + differing v w) × (ones w ≤ ones v + differing v w)
  near same =
      let left = by_places v in
      let right = ap (ones_until w) same ∙ by_places w in
      let both = near_until (length v) in
      let first = both.0 in
      let second = both.1 in
      (omega arith, omega arith)

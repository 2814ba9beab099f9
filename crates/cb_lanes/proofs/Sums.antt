-- A sum over two lists of words, one word further.
use Rattle.std.proofs.Common.{◌≡◌, ◌+◌, ◌<◌, ◌≤◌, ℕ, List, length, take, slice_index_or, ap, subst, ◌∙◌, arith}
use Rattle.std.specs.List.{sum_by}
use Rattle.std.specs.Simd.Lanes.{zip2}
use Rattle.std.proofs.lemmas.List.Sums.{sum_by_more, sum_by_more_le}
use Rattle.std.proofs.lemmas.Simd.{length-zip2, get_or-zip2}

module _ (size : ℕ → ℕ) (f : ℕ → ℕ → ℕ) (a b : List ℕ) (same : length a ≡ length b) (i : ℕ) (lt : i < length a) where
  within : i < length (zip2 f a b)
  within = let long = length-zip2 f a b same in omega arith

  item : slice_index_or (zip2 f a b) i 0 ≡ f (slice_index_or a i 0) (slice_index_or b i 0)
  item = get_or-zip2 f a b i 0 0 0 lt (omega arith)

  pub sum_further : sum_by size (take (i + 1) (zip2 f a b)) ≡ sum_by size (take i (zip2 f a b)) + size (f (slice_index_or a i 0) (slice_index_or b i 0))
  sum_further = sum_by_more size (zip2 f a b) i 0 within ∙ ap (λ w. sum_by size (take i (zip2 f a b)) + size w) item

  pub sum_further_le : sum_by size (take i (zip2 f a b)) + size (f (slice_index_or a i 0) (slice_index_or b i 0)) ≤ sum_by size (zip2 f a b)
  sum_further_le = subst (λ w. sum_by size (take i (zip2 f a b)) + size w ≤ sum_by size (zip2 f a b)) item (sum_by_more_le size (zip2 f a b) i 0 within)

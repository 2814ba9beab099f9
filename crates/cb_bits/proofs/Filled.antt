-- Rows whose values are written one after the other.
use Rattle.std.proofs.Common.{◌≡◌, ℕ, ◌+◌, ◌<◌, ◌≤◌, Bool, true, false, List, [], ◌∷◌, ◌++◌, length, take, replicate, slice_index_or, slice_set, refl, sym, ap, ◌∙◌, inl, inr, arith}
use Rattle.std.proofs.lemmas.Bool.{cases_lt}
use Rattle.std.proofs.lemmas.List.{take_all, take_more, take_more_set, get_or-replicate, get_or_past, length-replicate, length-set, get_or-set_other}

-- the first i of n values are these, and the others are still false
pub record IsFilled (n i : ℕ) (row prefix : List Bool) : Type 0 where
  pub long : length row ≡ n
  pub begins : take i row ≡ prefix
  pub rest : (k : ℕ) → i ≤ k → slice_index_or row k false ≡ false

pub none_filled : (n : ℕ) (row : List Bool) → row ≡ replicate n false → IsFilled n 0 row []
none_filled n row is = record {
  long = ap length is ∙ length-replicate n false;
  begins = refl;
  rest = λ k le. ap (λ r. slice_index_or r k false) is ∙ elim (cases_lt k n) [
    | inl lt ↦ get_or-replicate n k false false lt
    | inr past ↦ get_or_past (replicate n false) k false (let e = length-replicate n false in omega arith)
  ];
}

module _ (n i : ℕ) (lt : i < n) (row prefix : List Bool) (filled : IsFilled n i row prefix) where
  -- the next value is true
  pub one_set : IsFilled n (i + 1) (slice_set row i true) (prefix ++ true ∷ [])
  one_set =
      let long = filled.long in
      let set = length-set row i true in
      record {
        long = set ∙ long;
        begins = take_more_set row i true (omega arith) ∙ ap (λ r. r ++ true ∷ []) filled.begins;
        rest = λ k le. get_or-set_other row i k true false (λ e. omega arith) ∙ filled.rest k (omega arith);
      }

  -- the next value stays false
  pub one_left : IsFilled n (i + 1) row (prefix ++ false ∷ [])
  one_left =
      let long = filled.long in
      record {
        long = long;
        begins = take_more row i false (omega arith) ∙ ap (λ b. take i row ++ b ∷ []) (filled.rest i (omega arith)) ∙ ap (λ r. r ++ false ∷ []) filled.begins;
        rest = λ k le. filled.rest k (omega arith);
      }

pub all_filled : (n i : ℕ) (row prefix : List Bool) → n ≤ i → IsFilled n i row prefix → row ≡ prefix
all_filled n i row prefix le filled = let long = filled.long in sym (take_all i row (omega arith)) ∙ filled.begins

-- The numbers below one that pass a test.
use Rattle.std.proofs.Common.{◌≡◌, ℕ, zero, suc, ◌+◌, ◌-◌, ◌<◌, ◌≤◌, List, [], ◌∷◌, ◌++◌, filter, Bool, true, false, length, slice_index_or, sym, ap, ◌∙◌, refl, arith}
use Rattle.std.specs.List.{range_with_len}
use Rattle.std.proofs.lemmas.List.{append-nil}
use Rattle.std.proofs.lemmas.List.Elements.{filter-append}
use Rattle.cb_bits.specs.Bits.{IsNextOne, HasNoneFrom}
use Rattle.cb_compact.specs.Compact.{ones_of}

range_suc : (a n : ℕ) → range_with_len a (suc n) ≡ range_with_len a n ++ (a + n) ∷ []
range_suc a zero = let f : a ≡ a + 0 = omega arith in ap (λ x. x ∷ []) f
range_suc a (suc n) =
    let f = range_suc (a + 1) n in
    let g : a + 1 + n ≡ a + suc n = omega arith in
    ap (λ xs. a ∷ xs) f ∙ ap (λ x. range_with_len a (suc n) ++ x ∷ []) g

pub numbers_more : (n : ℕ) → range_with_len 0 (n + 1) ≡ range_with_len 0 n ++ n ∷ []
numbers_more n =
    let f : n + 1 ≡ suc n = omega arith in
    let g : 0 + n ≡ n = omega arith in
    ap (range_with_len 0) f ∙ (range_suc 0 n ∙ ap (λ x. range_with_len 0 n ++ x ∷ []) g)

module _ (row : List Bool) where
  -- the ones before a place
  abbrev pub ones_before : ℕ → List ℕ
  ones_before n = filter (λ k. slice_index_or row k false) (range_with_len 0 n)

  more : (n : ℕ) → ones_before (n + 1) ≡ ones_before n ++ filter (λ k. slice_index_or row k false) (n ∷ [])
  more n = ap (filter (λ k. slice_index_or row k false)) (numbers_more n) ∙ filter-append (λ k. slice_index_or row k false) (range_with_len 0 n) (n ∷ [])

  one_more : (n : ℕ) → slice_index_or row n false ≡ true → ones_before n ++ n ∷ [] ≡ ones_before (n + 1)
  one_more n is = rw (more n, is) refl

  none_more : (n : ℕ) → slice_index_or row n false ≡ false → ones_before n ≡ ones_before (n + 1)
  none_more n isnt = rw (more n, isnt, append-nil) refl

  none_further : (from n to : ℕ) → from + n ≡ to → ((k : ℕ) → from ≤ k → k < to → slice_index_or row k false ≡ false) → ones_before to ≡ ones_before from
  none_further from zero to e none = ap ones_before (let same : to ≡ from = omega arith in same)
  none_further from (suc n) to e none =
      let last : to ≡ from + n + 1 = omega arith in
      ap ones_before last ∙ sym (none_more (from + n) (none (from + n) (omega arith) (omega arith)))
      ∙ none_further from n (from + n) refl (λ k le lt. none k le (omega arith))

  -- the next one comes after those before it
  pub next_comes : (places : List ℕ) (from place : ℕ) → places ≡ ones_before from → IsNextOne row from place → places ++ place ∷ [] ≡ ones_before (place + 1)
  next_comes places from place are next =
      let on = next.on in
      ap (λ ks. ks ++ place ∷ []) (are ∙ sym (none_further from (place - from) place (omega arith) next.first)) ∙ one_more place next.is

  -- and where none comes these are all
  pub none_comes : (places : List ℕ) (from : ℕ) → places ≡ ones_before from → from ≤ length row → HasNoneFrom row from → places ≡ ones_of row
  none_comes places from are within none = are ∙ sym (none_further from (length row - from) (length row) (omega arith) (λ k le lt. none k le))

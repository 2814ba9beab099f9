-- The numbers below one that pass a test.
use Rattle.std.proofs.Common.{◌≡◌, ℕ, zero, suc, ◌+◌, ◌<◌, ◌≤◌, List, [], ◌∷◌, ◌++◌, filter, length, Bool, true, false, cond, sym, ap, ◌∙◌, refl, arith}
use Rattle.std.proofs.lemmas.List.{append-nil, length-append}
use Rattle.std.proofs.lemmas.List.Elements.{filter-append}
use Rattle.cb_coding.specs.Distance.{all_columns}
use Rattle.cb_coding.proofs.Distances.{all_columns_more}

alone_alike : (p q : ℕ → Bool) (n : ℕ) → p n ≡ q n → filter p (n ∷ []) ≡ filter q (n ∷ [])
alone_alike p q n same = ap (λ b. cond b (n ∷ []) []) same

module _ (passes : ℕ → Bool) where
  abbrev pub passing : ℕ → List ℕ
  passing n = filter passes (all_columns n)

  pub passing_more : (n : ℕ) → passing (n + 1) ≡ passing n ++ filter passes (n ∷ [])
  passing_more n = ap (filter passes) (all_columns_more n) ∙ filter-append passes (all_columns n) (n ∷ [])

  pub one_more_passes : (n : ℕ) → passes n ≡ true → passing n ++ n ∷ [] ≡ passing (n + 1)
  one_more_passes n is = rw (passing_more n, is) refl

  pub one_more_fails : (n : ℕ) → passes n ≡ false → passing n ≡ passing (n + 1)
  one_more_fails n isnt = rw (passing_more n, isnt, append-nil) refl

  -- what passes a test with the same answers
  pub same_passing : (others : ℕ → Bool) (n : ℕ) → ((k : ℕ) → k < n → passes k ≡ others k) → passing n ≡ filter others (all_columns n)
  same_passing others zero same = refl
  same_passing others (suc n) same =
      let more : suc n ≡ n + 1 = omega arith in
      let whole = ap (filter others) (ap all_columns more ∙ all_columns_more n) ∙ filter-append others (all_columns n) (n ∷ []) in
      ap passing more ∙ passing_more n ∙ ap (λ ks. ks ++ filter passes (n ∷ [])) (same_passing others n (λ k lt. same k (omega arith)))
      ∙ ap (λ ks. filter others (all_columns n) ++ ks) (alone_alike passes others n (same n (omega arith))) ∙ sym whole

  -- none passes from a number on
  pub none_further : (from n to : ℕ) → from + n ≡ to → ((k : ℕ) → from ≤ k → k < to → passes k ≡ false) → passing to ≡ passing from
  none_further from zero to e none = ap passing (let same : to ≡ from = omega arith in same)
  none_further from (suc n) to e none =
      let last : to ≡ from + n + 1 = omega arith in
      ap passing last ∙ sym (one_more_fails (from + n) (none (from + n) (omega arith) (omega arith)))
      ∙ none_further from n (from + n) refl (λ k le lt. none k le (omega arith))

  -- below a greater number no fewer pass
  pub passing_grow : (from n to : ℕ) → from + n ≡ to → length (passing from) ≤ length (passing to)
  passing_grow from zero to e = let same : from ≡ to = omega arith in let size = ap (λ k. length (passing k)) same in omega arith
  passing_grow from (suc n) to e =
      let last : to ≡ from + n + 1 = omega arith in
      let size = ap (λ k. length (passing k)) last in
      let more = ap length (passing_more (from + n)) in
      let parts = length-append (passing (from + n)) (filter passes ((from + n) ∷ [])) in
      let so_far = passing_grow from n (from + n) refl in
      omega arith

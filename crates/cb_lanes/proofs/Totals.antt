-- Sums over neighbouring numbers.
use Rattle.std.proofs.Common.{◌≡◌, ℕ, zero, suc, ◌+◌, ◌<◌, refl, sym, ap, ◌∙◌, arith}
use Rattle.std.specs.List.{sum_by, range_with_len}
use Rattle.std.proofs.lemmas.List.Sums.{sum_by-cons}

abbrev pub total : (ℕ → ℕ) → ℕ → ℕ → ℕ
total f a n = sum_by f (range_with_len a n)

total_next : (f : ℕ → ℕ) (a n : ℕ) → total f a (suc n) ≡ f a + total f (a + 1) n
total_next f a n = sum_by-cons f a (range_with_len (a + 1) n)

pub total_parts : (f : ℕ → ℕ) (a m n : ℕ) → total f a (m + n) ≡ total f a m + total f (a + m) n
total_parts f a zero n = let e : zero + n ≡ n = omega arith in let g : a + zero ≡ a = omega arith in
    ap (total f a) e ∙ sym (ap (λ b. total f b n) g) ∙ (let h : total f (a + zero) n ≡ 0 + total f (a + zero) n = omega arith in h)
total_parts f a (suc m) n =
    let e : suc m + n ≡ suc (m + n) = omega arith in
    let g : a + 1 + m ≡ a + suc m = omega arith in
    let first = total_next f a (m + n) in
    let rest = total_parts f (a + 1) m n in
    let second = total_next f a m in
    let there = ap (λ b. total f b n) g in
    let whole = ap (total f a) e in
    omega arith

pub total_alike : (f g : ℕ → ℕ) (a b n : ℕ) → ((i : ℕ) → i < n → f (a + i) ≡ g (b + i)) → total f a n ≡ total g b n
total_alike f g a b zero same = refl
total_alike f g a b (suc n) same =
    let first = total_next f a n in
    let second = total_next g b n in
    let here : f a ≡ g b = (let ea : a + 0 ≡ a = omega arith in let eb : b + 0 ≡ b = omega arith in
    sym (ap f ea) ∙ same 0 (omega arith) ∙ ap g eb) in
    let rest = total_alike f g (a + 1) (b + 1) n (λ i lt.
    let ea : a + 1 + i ≡ a + (i + 1) = omega arith in
    let eb : b + 1 + i ≡ b + (i + 1) = omega arith in
    ap f ea ∙ same (i + 1) (omega arith) ∙ sym (ap g eb)) in
    omega arith

pub total_nothing : (f : ℕ → ℕ) (a n : ℕ) → ((i : ℕ) → i < n → f (a + i) ≡ 0) → total f a n ≡ 0
total_nothing f a zero none = refl
total_nothing f a (suc n) none =
    let first = total_next f a n in
    let here : f a ≡ 0 = (let ea : a + 0 ≡ a = omega arith in sym (ap f ea) ∙ none 0 (omega arith)) in
    let rest = total_nothing f (a + 1) n (λ i lt. let ea : a + 1 + i ≡ a + (i + 1) = omega arith in ap f ea ∙ none (i + 1) (omega arith)) in
    omega arith

-- Numbers below 2.
use Rattle.std.proofs.Common.{ℕ, zero, suc, ◌<◌, arith}

not_two : (n : ℕ) → suc (suc n) < 2 → ⊥
not_two n lt = omega arith

-- what holds of 0 and 1 holds of each
pub each_digit : (P : ℕ → Type 0) → P 0 → P 1 → (x : ℕ) → x < 2 → P x
each_digit P none one zero lt = none
each_digit P none one (suc zero) lt = one
each_digit P none one (suc (suc x)) lt = absurd (not_two x lt)

-- the same of two such numbers
pub each_two : (P : ℕ → ℕ → Type 0) → P 0 0 → P 0 1 → P 1 0 → P 1 1 → (x y : ℕ) → x < 2 → y < 2 → P x y
each_two P a b c d x y x_lt y_lt = each_digit (λ x. P x y) (each_digit (P 0) a b y y_lt) (each_digit (P 1) c d y y_lt) x x_lt

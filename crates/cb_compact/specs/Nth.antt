-- The nth one of a word.
use Rattle.std.specs.Prelude.{◌≡◌, ◌==◌, ℕ, ◌+◌, ◌<◌}
use Rattle.std.specs.Int.{bit_at}
use Rattle.std.specs.List.{count_by, range_with_len}

-- how many of the first n bits of a word are one, from the least on
abbrev pub ones_below : ℕ → ℕ → ℕ
ones_below word n = count_by (λ j. bit_at word j == 1) (range_with_len 0 n)

-- this bit is the nth that is one
pub record IsNthOne (word n k : ℕ) : Type 0 where
  pub within : k < 64
  pub is : bit_at word k ≡ 1
  pub nth : ones_below word k + 1 ≡ n

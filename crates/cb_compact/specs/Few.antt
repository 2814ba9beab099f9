-- Which rows have few ones.
use Rattle.std.specs.Prelude.{ℕ, ◌+◌, ◌/◌, ◌^◌, ◌&&◌, Bool, nat_le, nat_lt}
use Rattle.cb_bits.specs.Bits.{words_for}

-- whether n values have so few ones that the positions of these are stored
abbrev pub are_few : ℕ → ℕ → Bool
are_few n ones = nat_le n (2 ^ 32) && nat_lt ones (words_for n / 2 + 8)

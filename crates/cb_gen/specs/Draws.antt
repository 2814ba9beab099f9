-- The generator of numbers.
use Rattle.std.specs.Prelude.{ℕ, zero, suc, ◌+◌, ◌*◌, ◌/◌, ◌%◌, ◌^◌}

-- the state after a draw, in 64 bits
unfoldable pub state_of_next_draw : ℕ → ℕ
state_of_next_draw x = (x * 6364136223846793005 + 1442695040888963407) % 2 ^ 64

-- what is drawn below a number, by the state after the draw
abbrev pub drawn : ℕ → ℕ → ℕ
drawn x below = x / 2 ^ 33 % below

-- the state after that many draws
abbrev pub state_after : ℕ → ℕ → ℕ
state_after zero x = x
state_after (suc n) x = state_of_next_draw (state_after n x)

-- what the draw of this number gives below another, counted from 1
abbrev pub draw : ℕ → ℕ → ℕ → ℕ
draw number x below = drawn (state_after number x) below

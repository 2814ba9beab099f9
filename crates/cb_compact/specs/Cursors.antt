-- The next ones of two rows.
use Rattle.std.specs.Prelude.{ℕ, ◌==◌, List, Bool, false, min, Option, None, Some}
use Rattle.cb_bits.specs.Bits.{IsNextOne, HasNoneFrom}
use Rattle.cb_compact.specs.Compact.{ones_of, AreBefore}

-- the next one of a row from a position on, if there is any
abbrev pub IsNextFrom : List Bool → ℕ → Option ℕ → Type 0
IsNextFrom row from None = HasNoneFrom row from
IsNextFrom row from (Some k) = IsNextOne row from k

-- `next` is the position of the first one from `from` on, and `before` ones come before that
pub record IsCursorAt (row : List Bool) (from before : ℕ) (next : Option ℕ) : Type 0 where
  pub cursor : IsNextFrom row from next
  pub passed : AreBefore (ones_of row) from before

-- whether there is a next one, at that position
abbrev pub is_at : Option ℕ → ℕ → Bool
is_at None place = false
is_at (Some k) place = k == place

-- the lower of two positions, or the only one
abbrev pub lower_of : Option ℕ → Option ℕ → Option ℕ
lower_of None other = other
lower_of (Some k) None = Some k
lower_of (Some k) (Some j) = Some (min k j)

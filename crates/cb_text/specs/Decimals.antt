-- Numbers as they are written.
use Rattle.std.specs.Prelude.{◌≡◌, ℕ, ◌+◌, ◌-◌, ◌*◌, ◌<◌, ◌^◌, List, [], ◌∷◌, length, get_or, true, decimal}
use Rattle.std.specs.Str.{all_ascii_digits}

-- the bytes are the digits that the number is written with: it has no leading zero, but for `0` itself
pub record IsDecimal (bytes : List ℕ) (number : ℕ) : Type 0 where
  pub small : number < 2 ^ 64
  pub written : bytes ≡ decimal number

-- each byte is a digit
abbrev pub AreDigits : List ℕ → Type 0
AreDigits bytes = all_ascii_digits bytes ≡ true

-- the number after these digits, where it is `number` before them; `0` is 48
abbrev pub number_after : ℕ → List ℕ → ℕ
number_after number [] = number
number_after number (b ∷ bs) = number_after (number * 10 + (b - 48)) bs

-- the number of these digits
abbrev pub number_of : List ℕ → ℕ
number_of bytes = number_after 0 bytes

-- a leading zero, with another byte after it
abbrev pub HasLeadingZero : List ℕ → Type 0
HasLeadingZero bytes = (1 < length bytes) × (get_or bytes 0 0 ≡ 48)

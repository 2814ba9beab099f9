-- The digits of a code in bytes, eight of each byte of its words.
use Rattle.std.specs.Prelude.{◌≡◌, ℕ, ◌+◌, ◌<◌, ◌==◌, List, [], Bool, true, false, length, slice_index_or}
use Rattle.std.specs.Int.{bit_at}

-- a digit is a byte
abbrev pub digit_byte : Bool → ℕ
digit_byte true = 49
digit_byte false = 48

-- from a position on, there are the digits of the first n bits of a word, from the least bit on
abbrev pub HasDigits : List ℕ → ℕ → ℕ → ℕ → Type 0
HasDigits digits at n word = (k : ℕ) → k < n → slice_index_or digits (at + k) 0 ≡ digit_byte (bit_at word k == 1)

-- the digits before a position stay as they were
abbrev pub KeepsDigitsBefore : ℕ → List ℕ → List ℕ → Type 0
KeepsDigitsBefore at old new = (k : ℕ) → k < at → slice_index_or new k 0 ≡ slice_index_or old k 0

-- the digits of a byte
pub record AreDigitsOfByte (digits : List ℕ) (byte : ℕ) : Type 0 where
  pub eight : length digits ≡ 8
  pub each : HasDigits digits 0 8 byte

-- the digits of each byte
pub record AreDigitsOfBytes (table : List (List ℕ)) : Type 0 where
  pub all : length table ≡ 256
  pub each : (byte : ℕ) → byte < 256 → AreDigitsOfByte (slice_index_or table byte []) byte

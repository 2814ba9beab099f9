-- What a code is looked up by.
use Rattle.std.specs.Prelude.{◌≡◌, ℕ, ◌*◌, ◌/◌, ◌%◌, ◌^◌, List, length, count_by, Bool, true, false, bit_xor}
use Rattle.std.specs.List.{filter, fold}
use Rattle.cb_bits.specs.Bits.{Packs}
use Rattle.cb_coding.specs.Distance.{bit, all_columns}
use Rattle.cb_compact.specs.Few.{are_few}

-- the columns that a code has, in order
abbrev pub columns_of : List Bool → List ℕ
columns_of code = filter (bit code) (all_columns (length code))

-- how many columns a code has
abbrev pub code_weight : List Bool → ℕ
code_weight code = count_by (λ value. value) code

-- 64 bits, of which the upper ones change the lower ones
abbrev pub folded : ℕ → ℕ
folded product = bit_xor product (product / 2 ^ 32)

-- the mark with one more number
abbrev pub mixed : ℕ → ℕ → ℕ
mixed mark number = folded ((bit_xor mark number * 0x9e3779b97f4a7c15) % 2 ^ 64)

-- the mark of numbers, one after the other
abbrev pub mark_of : List ℕ → ℕ
mark_of numbers = fold mixed 0x243f6a8885a308d3 numbers

-- the mark of words that hold a code
pub record IsMarkByWords (code : List Bool) (mark : ℕ) : Type 0 where
  pub words : List ℕ
  pub packs : Packs code words
  pub is : mark ≡ mark_of words

-- the mark of a code: of its columns, where these are few, and else of its words
pub record IsMark (code : List Bool) (mark : ℕ) : Type 0 where
  pub sparse : are_few (length code) (code_weight code) ≡ true → mark ≡ mark_of (columns_of code)
  pub dense : are_few (length code) (code_weight code) ≡ false → IsMarkByWords code mark

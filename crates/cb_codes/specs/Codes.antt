-- Codes of one width.
use Rattle.std.specs.Prelude.{◌≢◌, ℕ, List, Bool}
use Rattle.cb_coding.specs.Distance.{code_at}
use Rattle.cb_coding.specs.Pairs.{IsPair}

-- how many columns there are, and the codes in order
pub record Coded : Type 0 where
  pub width : ℕ
  pub rows : List (List Bool)

-- no code is there twice
abbrev pub AreDifferent : List (List Bool) → Type 0
AreDifferent codes = (i j : ℕ) → IsPair codes i j → code_at codes i ≢ code_at codes j

-- Two codes that a column tells apart, and that agree over other columns.
use Rattle.std.specs.Prelude.{◌≡◌, ℕ, ◌<◌, List, length, Bool, true, false}
use Rattle.cb_coding.specs.Distance.{bit, code_at, apart}

-- there are two such codes
pub record SomeAlone (codes : List (List Bool)) (columns : List ℕ) (c : ℕ) : Type 0 where
  pub one : ℕ
  pub other : ℕ
  pub one_within : one < length codes
  pub other_within : other < length codes
  pub has : bit (code_at codes one) c ≡ true
  pub lacks : bit (code_at codes other) c ≡ false
  pub agree : apart columns codes one other ≡ 0

-- a code that has the column agrees with none that lacks it
abbrev pub NoneAloneWith : List (List Bool) → List ℕ → ℕ → ℕ → Type 0
NoneAloneWith codes columns c i = (j : ℕ) → j < length codes → bit (code_at codes j) c ≡ false → 0 < apart columns codes i j

-- and so none does
abbrev pub NoneAlone : List (List Bool) → List ℕ → ℕ → Type 0
NoneAlone codes columns c = (i : ℕ) → i < length codes → bit (code_at codes i) c ≡ true → NoneAloneWith codes columns c i

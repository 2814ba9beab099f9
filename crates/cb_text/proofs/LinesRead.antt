-- Reading on from line to line.
use Rattle.std.proofs.Common.{◌≡◌, ℕ, ◌+◌, ◌≤◌, List, [], ◌∷◌, ◌++◌, length, refl, sym, ap, subst, ◌∙◌, arith}
use Rattle.std.proofs.lemmas.List.{append_assoc, append-nil, length-append}
use Rattle.cb_text.specs.Lines.{lines_of, IsLineOf}
use Rattle.cb_text.proofs.LineLemmas.{lines_are_few}

-- how many lines were read, P holds of them, and these are still to come
pub record ReadTo (text : List ℕ) (P : List (List ℕ) → Type 0) (rest : List (List ℕ)) (number : ℕ) : Type 0 where
  pub before : List (List ℕ)
  pub whole : before ++ rest ≡ lines_of text
  pub number_is : number ≡ length before
  pub holds : P before

pub read_none : (text : List ℕ) (P : List (List ℕ) → Type 0) → P [] → ReadTo text P (lines_of text) 0
read_none text P none = record { before = []; whole = refl; number_is = refl; holds = none }

pub read_all : (text : List ℕ) (P : List (List ℕ) → Type 0) (number : ℕ) → ReadTo text P [] number → P (lines_of text)
read_all text P number read = subst P (sym (append-nil read.before) ∙ read.whole) read.holds

module _ (text : List ℕ) (P : List (List ℕ) → Type 0) (number : ℕ) (all : List (List ℕ)) (read : ReadTo text P all number)
    (line : List ℕ) (rest : List (List ℕ)) (steps : all ≡ line ∷ rest) where
  whole : read.before ++ line ∷ rest ≡ lines_of text
  whole = ap (λ (ls : List (List ℕ)). read.before ++ ls) (sym steps) ∙ read.whole

  -- one line more
  pub read_more : (Q : List (List ℕ) → Type 0) → (P read.before → Q (read.before ++ line ∷ [])) → ReadTo text Q rest (number + 1)
  read_more Q more = record {
    before = read.before ++ line ∷ [];
    whole = append_assoc read.before (line ∷ []) rest ∙ whole;
    number_is = omega (arith, read.number_is, length-append read.before (line ∷ []));
    holds = more read.holds;
  }

  -- the line that comes
  pub comes : IsLineOf text (number + 1) read.before line
  comes = record { after = rest; lines = sym whole; number_is = omega (arith, read.number_is) }

  -- its number is not beyond the bytes
  pub number_within : number + 1 ≤ length text
  number_within = omega (arith, read.number_is, lines_are_few text, ap length whole, length-append read.before (line ∷ rest))

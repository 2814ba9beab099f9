-- One token stands after a place.
use Rattle.std.proofs.Common.{◌≡◌, refl, ap, sym, ◌∙◌, subst, ℕ, ◌+◌, ◌≤◌, List, [], ◌∷◌, ◌++◌, length, drop, Bool, false, Option, None, Some, arith, rules, inl, inr}
use Rattle.std.specs.Cmp.Lexicographic.{pointwise}
use Rattle.std.specs.Prelude.{◌⊎◌, if◌then◌else◌, codes, nat_eq, slice_range}
use Rattle.std.specs.List.{Contains}
use Rattle.cb_text.specs.Names.{IsRun, IsName, reserved_words}
use Rattle.cb_grammar.specs.declared.tree.Token.{Token}
use Rattle.cb_grammar.specs.declared.lexeme.Lexeme.{Lexeme}
use Rattle.cb_grammar.specs.declared.lexeme.Lexeme.TheVariants as lexemes
use Rattle.cb_lexer.specs.Gaps.{gap, gap_then, gap_byte, IsGap}
use Rattle.cb_lexer.specs.Tokens.{IsNameAt, IsTokenAt, IsWord, IsSign, EndsRun, bytes_of, TokenStands}
use Rattle.cb_lexer.proofs.Bytes.{split_at, range_end}
use Rattle.cb_lexer.proofs.Runs.{one_run, run_named, head, tail}
use Rattle.cb_lexer.proofs.Words.{word_run, word_reserved}
use Rattle.cb_lexer.proofs.Signs.{SignAt, sign_at, run_no_sign, two_signs, some_same, none_not, NoGapAt, run_starts, sign_starts}

pub gap_none : (bs : List ℕ) → gap None bs ≡ None
gap_none [] = refl
gap_none (b ∷ bs) = gap_none bs

none_some : (o : Option Bool) (s : Bool) → o ≡ None → o ≡ Some s → ⊥
none_some None s e f = search rules
none_some (Some x) s e f = search rules

no_gap_then : (o : Option Bool) (b : ℕ) (g x y : List ℕ) → o ≡ Some false → NoGapAt x → x ≡ b ∷ y → gap (gap_then o b) g ≡ Some false → ⊥
no_gap_then o b g x y is first same all =
    let none : gap_byte false b ≡ None = subst NoGapAt same first in
    none_some (gap (gap_then o b) g) false (ap (λ p. gap (gap_then p b) g) is ∙ ap (λ p. gap p g) none ∙ gap_none g) all

-- of two gaps that end at what is no part of one, each is the other
pub one_gap : (g g' x x' : List ℕ) (o : Option Bool) → gap o g ≡ Some false → gap o g' ≡ Some false → NoGapAt x → NoGapAt x' → g ++ x ≡ g' ++ x' → (g ≡ g') × (x ≡ x')
one_gap [] [] x x' o a a' n n' e = (refl, e)
one_gap [] (b ∷ g') x x' o a a' n n' e = absurd (no_gap_then o b g' x (g' ++ x') a n e a')
one_gap (b ∷ g) [] x x' o a a' n n' e = absurd (no_gap_then o b g x' (g ++ x) a' n' (sym e) a)
one_gap (b ∷ g) (c ∷ g') x x' o a a' n n' e =
    let same : b ≡ c = head b c (g ++ x) (g' ++ x') e in
    let rest = one_gap g g' x x' (gap_then o b) a (subst (λ y. gap (gap_then o y) g' ≡ Some false) (sym same) a') n n' (tail b c (g ++ x) (g' ++ x') e) in
    (ap (λ y. y ∷ g) same ∙ ap (λ l. c ∷ l) rest.0, rest.1)

-- a token is a run that ends, or a sign
abbrev pub Shape : Lexeme → List ℕ → Type 0
Shape k rest = (IsRun (bytes_of k) × EndsRun rest) ⊎ IsSign k

pub shape : (text rest : List ℕ) (start : ℕ) (k : Lexeme) → IsTokenAt text start k rest → Shape k rest
shape text rest start lexemes.Open at = inr tt
shape text rest start lexemes.Close at = inr tt
shape text rest start lexemes.Semicolon at = inr tt
shape text rest start lexemes.Colon at = inr tt
shape text rest start lexemes.Dot at = inr tt
shape text rest start lexemes.Arrow at = inr tt
shape text rest start lexemes.Plus at = inr tt
shape text rest start (lexemes.Name t) at = inl (at.name.run, at.ends)
shape text rest start lexemes.Class at = inl (word_run lexemes.Class tt, at)
shape text rest start lexemes.Extends at = inl (word_run lexemes.Extends tt, at)
shape text rest start lexemes.Problem at = inl (word_run lexemes.Problem tt, at)
shape text rest start lexemes.Symptom at = inl (word_run lexemes.Symptom tt, at)
shape text rest start lexemes.Event at = inl (word_run lexemes.Event tt, at)
shape text rest start lexemes.Relation at = inl (word_run lexemes.Relation tt, at)
shape text rest start lexemes.To at = inl (word_run lexemes.To tt, at)
shape text rest start lexemes.One at = inl (word_run lexemes.One tt, at)
shape text rest start lexemes.Many at = inl (word_run lexemes.Many tt, at)
shape text rest start lexemes.Inverse at = inl (word_run lexemes.Inverse tt, at)
shape text rest start lexemes.Rule at = inl (word_run lexemes.Rule tt, at)
shape text rest start lexemes.Block at = inl (word_run lexemes.Block tt, at)
shape text rest start lexemes.Hide at = inl (word_run lexemes.Hide tt, at)

-- the bytes of two tokens at one place are the same
one_bytes : (k k' : Lexeme) (r r' : List ℕ) → Shape k r → Shape k' r' → bytes_of k ++ r ≡ bytes_of k' ++ r' → bytes_of k ≡ bytes_of k'
one_bytes k k' r r' (inl a) (inl b) e = one_run (bytes_of k) (bytes_of k') r r' (run_named (bytes_of k) a.0) (run_named (bytes_of k') b.0) a.1 b.1 e
one_bytes k k' r r' (inl a) (inr b) e =
    absurd (none_not k' (two_signs (bytes_of k' ++ r') None (Some k') (subst (λ l. SignAt l None) e (run_no_sign (bytes_of k) r a.0)) (sign_at k' r' b)))
one_bytes k k' r r' (inr a) (inl b) e =
    absurd (none_not k (two_signs (bytes_of k ++ r) None (Some k) (subst (λ l. SignAt l None) (sym e) (run_no_sign (bytes_of k') r' b.0)) (sign_at k r a)))
one_bytes k k' r r' (inr a) (inr b) e =
    ap bytes_of (some_same k k' (two_signs (bytes_of k' ++ r') (Some k) (Some k') (subst (λ l. SignAt l (Some k)) e (sign_at k r a)) (sign_at k' r' b)))

-- the fixed tokens are known by their bytes
abbrev fixed_of : List ℕ → Option Lexeme
fixed_of bs =
    if pointwise nat_eq bs (codes "class") then Some lexemes.Class else (if pointwise nat_eq bs (codes "extends") then Some lexemes.Extends else (if pointwise nat_eq bs (codes "problem") then Some lexemes.Problem else (
    if pointwise nat_eq bs (codes "symptom") then Some lexemes.Symptom else (if pointwise nat_eq bs (codes "event") then Some lexemes.Event else (if pointwise nat_eq bs (codes "relation") then Some lexemes.Relation else (
    if pointwise nat_eq bs (codes "to") then Some lexemes.To else (if pointwise nat_eq bs (codes "one") then Some lexemes.One else (if pointwise nat_eq bs (codes "many") then Some lexemes.Many else (
    if pointwise nat_eq bs (codes "inverse") then Some lexemes.Inverse else (if pointwise nat_eq bs (codes "rule") then Some lexemes.Rule else (if pointwise nat_eq bs (codes "block") then Some lexemes.Block else (
    if pointwise nat_eq bs (codes "hide") then Some lexemes.Hide else (if pointwise nat_eq bs (codes "{") then Some lexemes.Open else (if pointwise nat_eq bs (codes "}") then Some lexemes.Close else (
    if pointwise nat_eq bs (codes ";") then Some lexemes.Semicolon else (if pointwise nat_eq bs (codes ":") then Some lexemes.Colon else (if pointwise nat_eq bs (codes ".") then Some lexemes.Dot else (
    if pointwise nat_eq bs (codes "=>") then Some lexemes.Arrow else (if pointwise nat_eq bs (codes "+") then Some lexemes.Plus else (None))))))))))))))))))))

abbrev IsFixed : Lexeme → Type 0
IsFixed (lexemes.Name t) = ⊥
IsFixed k = Unit {0}

reported : (k : Lexeme) → IsFixed k → fixed_of (bytes_of k) ≡ Some k
reported lexemes.Class f = refl
reported lexemes.Extends f = refl
reported lexemes.Problem f = refl
reported lexemes.Symptom f = refl
reported lexemes.Event f = refl
reported lexemes.Relation f = refl
reported lexemes.To f = refl
reported lexemes.One f = refl
reported lexemes.Many f = refl
reported lexemes.Inverse f = refl
reported lexemes.Rule f = refl
reported lexemes.Block f = refl
reported lexemes.Hide f = refl
reported lexemes.Open f = refl
reported lexemes.Close f = refl
reported lexemes.Semicolon f = refl
reported lexemes.Colon f = refl
reported lexemes.Dot f = refl
reported lexemes.Arrow f = refl
reported lexemes.Plus f = refl
reported (lexemes.Name t) f = absurd f

fixed_kinds : (k : Lexeme) → IsFixed k → IsWord k ⊎ IsSign k
fixed_kinds lexemes.Open f = inr tt
fixed_kinds lexemes.Close f = inr tt
fixed_kinds lexemes.Semicolon f = inr tt
fixed_kinds lexemes.Colon f = inr tt
fixed_kinds lexemes.Dot f = inr tt
fixed_kinds lexemes.Arrow f = inr tt
fixed_kinds lexemes.Plus f = inr tt
fixed_kinds (lexemes.Name t) f = absurd f
fixed_kinds lexemes.Class f = inl tt
fixed_kinds lexemes.Extends f = inl tt
fixed_kinds lexemes.Problem f = inl tt
fixed_kinds lexemes.Symptom f = inl tt
fixed_kinds lexemes.Event f = inl tt
fixed_kinds lexemes.Relation f = inl tt
fixed_kinds lexemes.To f = inl tt
fixed_kinds lexemes.One f = inl tt
fixed_kinds lexemes.Many f = inl tt
fixed_kinds lexemes.Inverse f = inl tt
fixed_kinds lexemes.Rule f = inl tt
fixed_kinds lexemes.Block f = inl tt
fixed_kinds lexemes.Hide f = inl tt

name_or_fixed : (k : Lexeme) → ((t : Token) × (k ≡ lexemes.Name t)) ⊎ IsFixed k
name_or_fixed (lexemes.Name t) = inl (t, refl)
name_or_fixed lexemes.Class = inr tt
name_or_fixed lexemes.Extends = inr tt
name_or_fixed lexemes.Problem = inr tt
name_or_fixed lexemes.Symptom = inr tt
name_or_fixed lexemes.Event = inr tt
name_or_fixed lexemes.Relation = inr tt
name_or_fixed lexemes.To = inr tt
name_or_fixed lexemes.One = inr tt
name_or_fixed lexemes.Many = inr tt
name_or_fixed lexemes.Inverse = inr tt
name_or_fixed lexemes.Rule = inr tt
name_or_fixed lexemes.Block = inr tt
name_or_fixed lexemes.Hide = inr tt
name_or_fixed lexemes.Open = inr tt
name_or_fixed lexemes.Close = inr tt
name_or_fixed lexemes.Semicolon = inr tt
name_or_fixed lexemes.Colon = inr tt
name_or_fixed lexemes.Dot = inr tt
name_or_fixed lexemes.Arrow = inr tt
name_or_fixed lexemes.Plus = inr tt

-- no name has the bytes of a fixed token
name_not_fixed : (name : List ℕ) (k : Lexeme) → IsName name → IsFixed k → name ≡ bytes_of k → ⊥
name_not_fixed name k is f e = elim (fixed_kinds k f) [
  | inl w ↦ is.free (subst (Contains reserved_words) (sym e) (word_reserved k w))
  | inr s ↦ none_not k (two_signs (bytes_of k ++ []) None (Some k) (subst (λ l. SignAt (l ++ []) None) e (run_no_sign name [] is.run)) (sign_at k [] s))
]

abbrev token : List ℕ → ℕ → ℕ → Token
token n l s = record { name = n; line = l; start = s }

same_names : (text r r' : List ℕ) (start : ℕ) (t t' : Token) → t.name ≡ t'.name → IsNameAt text start t r → IsNameAt text start t' r' → lexemes.Name t ≡ lexemes.Name t'
same_names text r r' start t t' n is is' =
    ap lexemes.Name (ap (λ x. token x t.line t.start) n ∙ ap (λ x. token t'.name x t.start) (is.line ∙ sym is'.line) ∙ ap (λ x. token t'.name t'.line x) (is.start_is ∙ sym is'.start_is))

-- the same bytes at one place are one token
same_token : (text r r' : List ℕ) (start : ℕ) (k k' : Lexeme) → IsTokenAt text start k r → IsTokenAt text start k' r' → bytes_of k ≡ bytes_of k' → k ≡ k'
same_token text r r' start k k' at at' e = elim (name_or_fixed k) [
  | inl n ↦ elim (name_or_fixed k') [
    | inl n' ↦ n.1 ∙ same_names text r r' start n.0 n'.0 (sym (ap bytes_of n.1) ∙ e ∙ ap bytes_of n'.1) (subst (λ q. IsTokenAt text start q r) n.1 at) (subst (λ q. IsTokenAt text start q r') n'.1 at') ∙ sym n'.1
    | inr f' ↦ absurd (name_not_fixed n.0.name k' (subst (λ q. IsTokenAt text start q r) n.1 at).name f' (sym (ap bytes_of n.1) ∙ e))
  ]
  | inr f ↦ elim (name_or_fixed k') [
    | inl n' ↦ absurd (name_not_fixed n'.0.name k (subst (λ q. IsTokenAt text start q r') n'.1 at').name f (sym (ap bytes_of n'.1) ∙ sym e))
    | inr f' ↦ some_same k k' (sym (reported k f) ∙ ap fixed_of e ∙ reported k' f')
  ]
]

token_starts : (k : Lexeme) (r : List ℕ) → Shape k r → NoGapAt (bytes_of k ++ r)
token_starts k r (inl a) = run_starts (bytes_of k) r a.0
token_starts k r (inr s) = sign_starts k r s

-- a token's bytes and what is after them
pub token_cut : (text : List ℕ) (from start : ℕ) (k : Lexeme) (end : ℕ) → TokenStands text from start k end → bytes_of k ++ drop end text ≡ drop start text
token_cut text from start k end s = ap (λ l. l ++ drop end text) (sym s.bytes) ∙ split_at text start end (omega (arith, s.length))

-- what stands at a token's place is no part of a gap
pub token_no_gap : (text : List ℕ) (from start : ℕ) (k : Lexeme) (end : ℕ) → TokenStands text from start k end → NoGapAt (drop start text)
token_no_gap text from start k end s = subst NoGapAt (token_cut text from start k end s) (token_starts k (drop end text) (shape text (drop end text) start k s.whole))

-- of two places after a gap at what is no part of one, each is the other
pub one_place : (text : List ℕ) (from at at' : ℕ) → from ≤ at → from ≤ at' → at ≤ length text → at' ≤ length text → IsGap (slice_range text from at) → IsGap (slice_range text from at') →
    NoGapAt (drop at text) → NoGapAt (drop at' text) → at ≡ at'
one_place text from at at' after after' within within' gap gap' none none' =
    let same = (one_gap (slice_range text from at) (slice_range text from at') (drop at text) (drop at' text) (Some false) gap gap' none none' (split_at text from at after ∙ sym (split_at text from at' after'))).0 in
    range_end text from at after within ∙ ap (λ l. from + length l) same ∙ sym (range_end text from at' after' within')

-- one token begins and ends at a place
one_there : (text : List ℕ) (from start : ℕ) (k k' : Lexeme) (end end' : ℕ) → TokenStands text from start k end → TokenStands text from start k' end' → (k ≡ k') × (end ≡ end')
one_there text from start k k' end end' s s' =
    let bytes : bytes_of k ≡ bytes_of k' =
    one_bytes k k' (drop end text) (drop end' text) (shape text (drop end text) start k s.whole) (shape text (drop end' text) start k' s'.whole)
    (token_cut text from start k end s ∙ sym (token_cut text from start k' end' s')) in
    (same_token text (drop end text) (drop end' text) start k k' s.whole s'.whole bytes, omega (arith, s.length, s'.length, ap length bytes))

-- two tokens after one place begin at one place
token_place : (text : List ℕ) (from start start' : ℕ) (k k' : Lexeme) (end end' : ℕ) → TokenStands text from start k end → TokenStands text from start' k' end' → start ≡ start'
token_place text from start start' k k' end end' s s' =
    one_place text from start start' s.after s'.after (omega (arith, s.length, s.within)) (omega (arith, s'.length, s'.within)) s.gap s'.gap (token_no_gap text from start k end s) (token_no_gap text from start' k' end' s')

-- one token stands after a place
pub one_token : (text : List ℕ) (from start start' : ℕ) (k k' : Lexeme) (end end' : ℕ) → TokenStands text from start k end → TokenStands text from start' k' end' → (start ≡ start') × (k ≡ k') × (end ≡ end')
one_token text from start start' k k' end end' s s' =
    let at : start ≡ start' = token_place text from start start' k k' end end' s s' in
    let same = one_there text from start k k' end end' s (subst (λ n. TokenStands text from n k' end') (sym at) s') in
    (at, same.0, same.1)

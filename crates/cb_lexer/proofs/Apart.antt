-- After a place one thing stands next: a token, a byte that begins none, a run that is too long, or the end.
use Rattle.std.proofs.Common.{◌≡◌, refl, ap, sym, ◌∙◌, subst, ℕ, ◌-◌, ◌≤◌, List, [], ◌∷◌, ◌++◌, length, drop, false, None, Some, arith, length-take, inl, inr}
use Rattle.std.specs.Prelude.{slice_range, IsSome}
use Rattle.cb_text.specs.Names.{IsRun}
use Rattle.cb_grammar.specs.declared.lexeme.Lexeme.{Lexeme}
use Rattle.cb_grammar.specs.declared.lexeme.Lexeme.TheVariants as lexemes
use Rattle.cb_lexer.specs.declared.spot.Spot.{Spot}
use Rattle.cb_lexer.specs.declared.found.Found.{Found}
use Rattle.cb_lexer.specs.declared.found.Found.TheVariants.{Token, End, Bad, Long}
use Rattle.cb_lexer.specs.Places.{IsSpot, line_of, column_of}
use Rattle.cb_lexer.specs.Gaps.{gap, IsGap, IsLastGap}
use Rattle.cb_lexer.specs.Tokens.{IsTokenAt, NoSign, BeginsNone, IsLongRun, bytes_of, TokenStands}
use Rattle.cb_lexer.specs.Next.{IsAfterGap, IsNext}
use Rattle.cb_lexer.proofs.Bytes.{gap-append, split_at}
use Rattle.cb_lexer.proofs.Runs.{true_false, longest, run_named}
use Rattle.cb_lexer.proofs.Signs.{NoGapAt, SignAt, sign_at, run_no_sign, two_signs, none_not, run_starts}
use Rattle.cb_lexer.proofs.Only.{gap_none, shape, token_cut, token_no_gap, one_place, one_token}

-- a gap and then what is no part of one is no last gap
not_last : (g x : List ℕ) → IsGap g → NoGapAt x → IsLastGap (g ++ x) → ⊥
not_last g [] is first last = first
not_last g (b ∷ x) is first last =
    let none : gap (Some false) (g ++ b ∷ x) ≡ None = gap-append g (b ∷ x) (Some false) ∙ ap (λ o. gap o (b ∷ x)) is ∙ ap (λ o. gap o x) first ∙ gap_none x in
    true_false (subst IsSome none last) refl

not_end : (text : List ℕ) (from : ℕ) (s : Spot) → IsAfterGap text from s → NoGapAt (drop s.at text) → IsLastGap (drop from text) → ⊥
not_end text from s is none last = not_last (slice_range text from s.at) (drop s.at text) is.gap none (subst IsLastGap (sym (split_at text from s.at is.after)) last)

bad_no_gap : (y : List ℕ) → BeginsNone y → NoGapAt y
bad_no_gap [] b = b
bad_no_gap (c ∷ y) b = b.0

long_onward : (text : List ℕ) (start end : ℕ) → IsLongRun text start end → start ≤ end
long_onward text start end long = omega (arith, long.long, length-take (end - start) (drop start text))

long_cut : (text : List ℕ) (start end : ℕ) → IsLongRun text start end → slice_range text start end ++ drop end text ≡ drop start text
long_cut text start end long = split_at text start end (long_onward text start end long)

long_no_gap : (text : List ℕ) (start end : ℕ) → IsLongRun text start end → NoGapAt (drop start text)
long_no_gap text start end long = subst NoGapAt (long_cut text start end long) (run_starts (slice_range text start end) (drop end text) long.run)

run_not_bad : (bs r : List ℕ) → IsRun bs → BeginsNone (bs ++ r) → ⊥
run_not_bad [] r run bad = run
run_not_bad (b ∷ bs) r run bad = true_false run.0 bad.1

bad_no_sign : (y : List ℕ) → BeginsNone y → NoSign y
bad_no_sign [] bad = absurd bad
bad_no_sign (c ∷ y) bad = bad.2

-- at one place there is no token and a byte that begins none
token_not_bad : (text : List ℕ) (from start : ℕ) (k : Lexeme) (end : ℕ) → TokenStands text from start k end → BeginsNone (drop start text) → ⊥
token_not_bad text from start k end s bad =
    let whole = token_cut text from start k end s in
    elim (shape text (drop end text) start k s.whole) [
      | inl run ↦ run_not_bad (bytes_of k) (drop end text) run.0 (subst BeginsNone (sym whole) bad)
      | inr sign ↦ bad_no_sign (drop start text) bad k sign (drop end text, sym whole)
    ]

short : (text r : List ℕ) (start : ℕ) (k : Lexeme) → IsTokenAt text start k r → length (bytes_of k) ≤ 63
short text r start (lexemes.Name t) at = at.name.short
short text r start lexemes.Class at = omega arith
short text r start lexemes.Extends at = omega arith
short text r start lexemes.Problem at = omega arith
short text r start lexemes.Symptom at = omega arith
short text r start lexemes.Event at = omega arith
short text r start lexemes.Relation at = omega arith
short text r start lexemes.To at = omega arith
short text r start lexemes.One at = omega arith
short text r start lexemes.Many at = omega arith
short text r start lexemes.Inverse at = omega arith
short text r start lexemes.Rule at = omega arith
short text r start lexemes.Block at = omega arith
short text r start lexemes.Hide at = omega arith
short text r start lexemes.Open at = omega arith
short text r start lexemes.Close at = omega arith
short text r start lexemes.Semicolon at = omega arith
short text r start lexemes.Colon at = omega arith
short text r start lexemes.Dot at = omega arith
short text r start lexemes.Arrow at = omega arith
short text r start lexemes.Plus at = omega arith

-- at one place there is no token and a run that is too long
token_not_long : (text : List ℕ) (from start : ℕ) (k : Lexeme) (end to : ℕ) → TokenStands text from start k end → IsLongRun text start to → ⊥
token_not_long text from start k end to s long =
    let same : bytes_of k ++ drop end text ≡ slice_range text start to ++ drop to text = token_cut text from start k end s ∙ sym (long_cut text start to long) in
    elim (shape text (drop end text) start k s.whole) [
      | inl run ↦ (let low = longest (bytes_of k) (slice_range text start to) (drop end text) (drop to text) (run_named (slice_range text start to) long.run) run.1 same in
          absurd (omega (arith, low, short text (drop end text) start k s.whole, long.long)))
      | inr sign ↦ none_not k (two_signs (slice_range text start to ++ drop to text) None (Some k) (run_no_sign (slice_range text start to) (drop to text) long.run) (subst (λ l. SignAt l (Some k)) same (sign_at k (drop end text) sign)))
    ]

bad_not_long : (text : List ℕ) (start end : ℕ) → BeginsNone (drop start text) → IsLongRun text start end → ⊥
bad_not_long text start end bad long = run_not_bad (slice_range text start end) (drop end text) long.run (subst BeginsNone (sym (long_cut text start end long)) bad)

abbrev spot_of : ℕ → ℕ → ℕ → Spot
spot_of at line column = record { at = at; line = line; column = column }

same_fields : (s s' : Spot) → s.at ≡ s'.at → s.line ≡ s'.line → s.column ≡ s'.column → s ≡ s'
same_fields s s' at line column = ap (λ x. spot_of x s.line s.column) at ∙ ap (λ x. spot_of s'.at x s.column) line ∙ ap (λ x. spot_of s'.at s'.line x) column

same_spot : (text : List ℕ) (s s' : Spot) → IsSpot text s → IsSpot text s' → s.at ≡ s'.at → s ≡ s'
same_spot text s s' is is' at = same_fields s s' at (is.line ∙ ap (line_of text) at ∙ sym is'.line) (is.column ∙ ap (column_of text) at ∙ sym is'.column)

meets : (text : List ℕ) (from : ℕ) (s s' : Spot) → IsAfterGap text from s → IsAfterGap text from s' → NoGapAt (drop s.at text) → NoGapAt (drop s'.at text) → s.at ≡ s'.at
meets text from s s' is is' none none' = one_place text from s.at s'.at is.after is'.after is.spot.within is'.spot.within is.gap is'.gap none none'

token_bad : (text : List ℕ) (from : ℕ) (k : Lexeme) (s e s' : Spot) → IsNext text from (Token k s e) → IsNext text from (Bad s') → ⊥
token_bad text from k s e s' a b =
    let same = meets text from s s' a.0 b.0 (token_no_gap text from s.at k e.at a.2) (bad_no_gap (drop s'.at text) b.1) in
    token_not_bad text from s.at k e.at a.2 (subst (λ n. BeginsNone (drop n text)) (sym same) b.1)

token_long : (text : List ℕ) (from : ℕ) (k : Lexeme) (s e s' : Spot) → IsNext text from (Token k s e) → IsNext text from (Long s') → ⊥
token_long text from k s e s' a b =
    let same = meets text from s s' a.0 b.0 (token_no_gap text from s.at k e.at a.2) (long_no_gap text s'.at b.1.0 b.1.1) in
    token_not_long text from s.at k e.at b.1.0 a.2 (subst (λ n. IsLongRun text n b.1.0) (sym same) b.1.1)

bad_long : (text : List ℕ) (from : ℕ) (s s' : Spot) → IsNext text from (Bad s) → IsNext text from (Long s') → ⊥
bad_long text from s s' a b =
    let same = meets text from s s' a.0 b.0 (bad_no_gap (drop s.at text) a.1) (long_no_gap text s'.at b.1.0 b.1.1) in
    bad_not_long text s'.at b.1.0 (subst (λ n. BeginsNone (drop n text)) same a.1) b.1.1

-- after a place one thing stands next
pub one_next : (text : List ℕ) (from : ℕ) (found found' : Found) → IsNext text from found → IsNext text from found' → found ≡ found'
one_next text from (Token k s e) (Token k' s' e') a b =
    let same = one_token text from s.at s'.at k k' e.at e'.at a.2 b.2 in
    ap (λ x. Token x s e) same.1 ∙ ap (λ x. Token k' x e) (same_spot text s s' a.0.spot b.0.spot same.0) ∙ ap (λ x. Token k' s' x) (same_spot text e e' a.1 b.1 same.2)
one_next text from (Token k s e) End a b = absurd (not_end text from s a.0 (token_no_gap text from s.at k e.at a.2) b)
one_next text from (Token k s e) (Bad s') a b = absurd (token_bad text from k s e s' a b)
one_next text from (Token k s e) (Long s') a b = absurd (token_long text from k s e s' a b)
one_next text from End (Token k s e) a b = absurd (not_end text from s b.0 (token_no_gap text from s.at k e.at b.2) a)
one_next text from End End a b = refl
one_next text from End (Bad s) a b = absurd (not_end text from s b.0 (bad_no_gap (drop s.at text) b.1) a)
one_next text from End (Long s) a b = absurd (not_end text from s b.0 (long_no_gap text s.at b.1.0 b.1.1) a)
one_next text from (Bad s) (Token k s' e) a b = absurd (token_bad text from k s' e s b a)
one_next text from (Bad s) End a b = absurd (not_end text from s a.0 (bad_no_gap (drop s.at text) a.1) b)
one_next text from (Bad s) (Bad s') a b =
    ap Bad (same_spot text s s' a.0.spot b.0.spot (meets text from s s' a.0 b.0 (bad_no_gap (drop s.at text) a.1) (bad_no_gap (drop s'.at text) b.1)))
one_next text from (Bad s) (Long s') a b = absurd (bad_long text from s s' a b)
one_next text from (Long s) (Token k s' e) a b = absurd (token_long text from k s' e s b a)
one_next text from (Long s) End a b = absurd (not_end text from s a.0 (long_no_gap text s.at a.1.0 a.1.1) b)
one_next text from (Long s) (Bad s') a b = absurd (bad_long text from s' s b a)
one_next text from (Long s) (Long s') a b =
    ap Long (same_spot text s s' a.0.spot b.0.spot (meets text from s s' a.0 b.0 (long_no_gap text s.at a.1.0 a.1.1) (long_no_gap text s'.at b.1.0 b.1.1)))

-- a place with its line and its column
abbrev pub spot_at : List ℕ → ℕ → Spot
spot_at text at = record { at = at; line = line_of text at; column = column_of text at }

is_spot_at : (text : List ℕ) (at : ℕ) → at ≤ length text → IsSpot text (spot_at text at)
is_spot_at text at within = record { within = within; line = refl; column = refl }

-- a token that stands in a text is what stands next
pub token_next : (text : List ℕ) (from start : ℕ) (k : Lexeme) (end : ℕ) → TokenStands text from start k end → IsNext text from (Token k (spot_at text start) (spot_at text end))
token_next text from start k end s = (record { spot = is_spot_at text start (omega (arith, s.length, s.within)); after = s.after; gap = s.gap }, is_spot_at text end s.within, s)

-- Names stand where their tokens say.
use Rattle.std.proofs.Common.{◌≡◌, ap, sym, ◌∙◌, ℕ, ◌+◌, ◌≤◌, List, [], ◌∷◌, length, arith, drop}
use Rattle.std.specs.Prelude.{slice_range}
use Rattle.cb_grammar.specs.declared.tree.Token.{Token}
use Rattle.cb_grammar.specs.declared.lexeme.Lexeme.{Lexeme}
use Rattle.cb_grammar.specs.declared.lexeme.Lexeme.TheVariants as lexemes
use Rattle.cb_lexer.specs.Places.{line_of}
use Rattle.cb_lexer.specs.Tokens.{TokenStands, ReadsTokens, IsTokenAt}
use Rattle.cb_grammar.specs.Grammar.{NameFits}
use Rattle.std.specs.List.{All}
use Rattle.std.proofs.lemmas.List.Elements.{All-cons}
use Rattle.cb_syntax.specs.Spells.{NameStands, NamesStand}

name_stands : (text : List ℕ) (from from' start : ℕ) (t : Token) (mid : ℕ) → from' ≤ from → TokenStands text from start (lexemes.Name t) mid → NameStands text from' t × (t.start + length t.name ≤ mid)
name_stands text from from' start t mid low s =
    let here : t.start ≡ start = s.whole.start_is in
    let end : mid ≡ t.start + length t.name = omega (arith, s.length, here) in (
      record {
        after = omega (arith, s.after, here);
        slice = ap (λ n. slice_range text t.start n) (sym end) ∙ ap (λ n. slice_range text n mid) here ∙ s.bytes;
        line = s.whole.line ∙ ap (line_of text) (sym here);
      },
      omega (arith, end),
    )

onward : (text : List ℕ) (from start : ℕ) (k : Lexeme) (mid : ℕ) → TokenStands text from start k mid → from ≤ mid
onward text from start k mid s = omega (arith, s.after, s.length)

-- the names of tokens that stand in a text stand there
pub reads_names : (text : List ℕ) (ks : List Lexeme) (from' from to : ℕ) → from' ≤ from → ReadsTokens text from ks to → NamesStand text from' ks
reads_names text [] from' from to low reads = tt
reads_names text (lexemes.Name t ∷ ks) from' from to low reads =
    let here = name_stands text from from' reads.0 t reads.1 low reads.2 in (here.0, reads_names text ks (t.start + length t.name) reads.1 to here.1 reads.3)
reads_names text (lexemes.Class ∷ ks) from' from to low reads = reads_names text ks from' reads.1 to (omega (arith, low, onward text from reads.0 lexemes.Class reads.1 reads.2)) reads.3
reads_names text (lexemes.Extends ∷ ks) from' from to low reads = reads_names text ks from' reads.1 to (omega (arith, low, onward text from reads.0 lexemes.Extends reads.1 reads.2)) reads.3
reads_names text (lexemes.Problem ∷ ks) from' from to low reads = reads_names text ks from' reads.1 to (omega (arith, low, onward text from reads.0 lexemes.Problem reads.1 reads.2)) reads.3
reads_names text (lexemes.Symptom ∷ ks) from' from to low reads = reads_names text ks from' reads.1 to (omega (arith, low, onward text from reads.0 lexemes.Symptom reads.1 reads.2)) reads.3
reads_names text (lexemes.Event ∷ ks) from' from to low reads = reads_names text ks from' reads.1 to (omega (arith, low, onward text from reads.0 lexemes.Event reads.1 reads.2)) reads.3
reads_names text (lexemes.Relation ∷ ks) from' from to low reads = reads_names text ks from' reads.1 to (omega (arith, low, onward text from reads.0 lexemes.Relation reads.1 reads.2)) reads.3
reads_names text (lexemes.To ∷ ks) from' from to low reads = reads_names text ks from' reads.1 to (omega (arith, low, onward text from reads.0 lexemes.To reads.1 reads.2)) reads.3
reads_names text (lexemes.One ∷ ks) from' from to low reads = reads_names text ks from' reads.1 to (omega (arith, low, onward text from reads.0 lexemes.One reads.1 reads.2)) reads.3
reads_names text (lexemes.Many ∷ ks) from' from to low reads = reads_names text ks from' reads.1 to (omega (arith, low, onward text from reads.0 lexemes.Many reads.1 reads.2)) reads.3
reads_names text (lexemes.Inverse ∷ ks) from' from to low reads = reads_names text ks from' reads.1 to (omega (arith, low, onward text from reads.0 lexemes.Inverse reads.1 reads.2)) reads.3
reads_names text (lexemes.Rule ∷ ks) from' from to low reads = reads_names text ks from' reads.1 to (omega (arith, low, onward text from reads.0 lexemes.Rule reads.1 reads.2)) reads.3
reads_names text (lexemes.Block ∷ ks) from' from to low reads = reads_names text ks from' reads.1 to (omega (arith, low, onward text from reads.0 lexemes.Block reads.1 reads.2)) reads.3
reads_names text (lexemes.Hide ∷ ks) from' from to low reads = reads_names text ks from' reads.1 to (omega (arith, low, onward text from reads.0 lexemes.Hide reads.1 reads.2)) reads.3
reads_names text (lexemes.Open ∷ ks) from' from to low reads = reads_names text ks from' reads.1 to (omega (arith, low, onward text from reads.0 lexemes.Open reads.1 reads.2)) reads.3
reads_names text (lexemes.Close ∷ ks) from' from to low reads = reads_names text ks from' reads.1 to (omega (arith, low, onward text from reads.0 lexemes.Close reads.1 reads.2)) reads.3
reads_names text (lexemes.Semicolon ∷ ks) from' from to low reads = reads_names text ks from' reads.1 to (omega (arith, low, onward text from reads.0 lexemes.Semicolon reads.1 reads.2)) reads.3
reads_names text (lexemes.Colon ∷ ks) from' from to low reads = reads_names text ks from' reads.1 to (omega (arith, low, onward text from reads.0 lexemes.Colon reads.1 reads.2)) reads.3
reads_names text (lexemes.Dot ∷ ks) from' from to low reads = reads_names text ks from' reads.1 to (omega (arith, low, onward text from reads.0 lexemes.Dot reads.1 reads.2)) reads.3
reads_names text (lexemes.Arrow ∷ ks) from' from to low reads = reads_names text ks from' reads.1 to (omega (arith, low, onward text from reads.0 lexemes.Arrow reads.1 reads.2)) reads.3
reads_names text (lexemes.Plus ∷ ks) from' from to low reads = reads_names text ks from' reads.1 to (omega (arith, low, onward text from reads.0 lexemes.Plus reads.1 reads.2)) reads.3

token_fits : (text rest : List ℕ) (start : ℕ) (k : Lexeme) → IsTokenAt text start k rest → NameFits k
token_fits text rest start (lexemes.Name t) at = at.name
token_fits text rest start lexemes.Class at = tt
token_fits text rest start lexemes.Extends at = tt
token_fits text rest start lexemes.Problem at = tt
token_fits text rest start lexemes.Symptom at = tt
token_fits text rest start lexemes.Event at = tt
token_fits text rest start lexemes.Relation at = tt
token_fits text rest start lexemes.To at = tt
token_fits text rest start lexemes.One at = tt
token_fits text rest start lexemes.Many at = tt
token_fits text rest start lexemes.Inverse at = tt
token_fits text rest start lexemes.Rule at = tt
token_fits text rest start lexemes.Block at = tt
token_fits text rest start lexemes.Hide at = tt
token_fits text rest start lexemes.Open at = tt
token_fits text rest start lexemes.Close at = tt
token_fits text rest start lexemes.Semicolon at = tt
token_fits text rest start lexemes.Colon at = tt
token_fits text rest start lexemes.Dot at = tt
token_fits text rest start lexemes.Arrow at = tt
token_fits text rest start lexemes.Plus at = tt

-- the names of tokens that stand in a text are names
pub reads_fit : (text : List ℕ) (ks : List Lexeme) (from to : ℕ) → ReadsTokens text from ks to → All NameFits ks
reads_fit text [] from to reads = λ k d low. absurd (omega (arith, low))
reads_fit text (k ∷ ks) from to reads = All-cons NameFits k ks (token_fits text (drop reads.1 text) reads.0 k reads.2.whole) (reads_fit text ks reads.1 to reads.3)

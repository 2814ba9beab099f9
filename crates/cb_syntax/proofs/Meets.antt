-- What the parser meets.
use Rattle.std.proofs.Common.{refl, sym, subst, ℕ, ◌<◌, List, [], ◌∷◌, ◌++◌, length, drop, arith}
use Rattle.cb_text.specs.Names.{IsRun}
use Rattle.cb_grammar.specs.declared.tree.Tree.{Tree}
use Rattle.cb_grammar.specs.declared.lexeme.Lexeme.{Lexeme}
use Rattle.cb_grammar.specs.declared.lexeme.Lexeme.TheVariants as lexemes
use Rattle.cb_grammar.specs.Grammar.{IsModelPrefix}
use Rattle.cb_lexer.specs.Places.{IsSpot}
use Rattle.cb_lexer.specs.Tokens.{TokenStands, IsTokenAt, ReadsTokens, bytes_of}

pub reads_more : (text : List ℕ) (ks : List Lexeme) (from mid start : ℕ) (k : Lexeme) (to : ℕ) → ReadsTokens text from ks mid → TokenStands text mid start k to → ReadsTokens text from (ks ++ k ∷ []) to
reads_more text [] from mid start k to reads stands = (start, to, subst (λ f. TokenStands text f start k to) (sym reads) stands, refl)
reads_more text (x ∷ xs) from mid start k to reads stands = (reads.0, reads.1, reads.2, reads_more text xs reads.1 mid start k to reads.3 stands)

run_some : (bs : List ℕ) → IsRun bs → 0 < length bs
run_some [] run = absurd run
run_some (b ∷ bs) run = omega arith

-- a token has a byte
token_some : (text rest : List ℕ) (start : ℕ) (k : Lexeme) → IsTokenAt text start k rest → 0 < length (bytes_of k)
token_some text rest start lexemes.Class at = omega arith
token_some text rest start lexemes.Extends at = omega arith
token_some text rest start lexemes.Problem at = omega arith
token_some text rest start lexemes.Symptom at = omega arith
token_some text rest start lexemes.Event at = omega arith
token_some text rest start lexemes.Relation at = omega arith
token_some text rest start lexemes.To at = omega arith
token_some text rest start lexemes.One at = omega arith
token_some text rest start lexemes.Many at = omega arith
token_some text rest start lexemes.Inverse at = omega arith
token_some text rest start lexemes.Rule at = omega arith
token_some text rest start lexemes.Block at = omega arith
token_some text rest start lexemes.Hide at = omega arith
token_some text rest start lexemes.Open at = omega arith
token_some text rest start lexemes.Close at = omega arith
token_some text rest start lexemes.Semicolon at = omega arith
token_some text rest start lexemes.Colon at = omega arith
token_some text rest start lexemes.Dot at = omega arith
token_some text rest start lexemes.Arrow at = omega arith
token_some text rest start lexemes.Plus at = omega arith
token_some text rest start (lexemes.Name t) at = run_some t.name at.name.run

pub goes_on : (text : List ℕ) (from start : ℕ) (k : Lexeme) (to : ℕ) → TokenStands text from start k to → from < to
goes_on text from start k to stands = omega (arith, stands.after, stands.length, token_some text (drop to text) start k stands.whole)

pub first_spot : (text : List ℕ) → IsSpot text (record { at = 0; line = 1; column = 1 })
first_spot text = record { within = omega arith; line = refl; column = refl }

abbrev no_classes : Tree
no_classes = record { classes = [] }

-- each model begins with no token
pub prefix_none : IsModelPrefix []
prefix_none = ([], (no_classes, record { fits = λ k d low. absurd (omega arith); tokens = refl }))

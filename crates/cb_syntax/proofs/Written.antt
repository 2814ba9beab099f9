-- The lines of a canonical text, as they are written piece by piece.
use Rattle.std.proofs.Common.{◌≡◌, refl, ap, sym, ◌∙◌, ℕ, List, Bool, [], ◌∷◌, ◌++◌, true, false, Option, None, Some, append_assoc}
use Rattle.std.specs.Prelude.{codes}
use Rattle.std.specs.List.{flat_map}
use Rattle.cb_grammar.specs.declared.tree.Token.{Token}
use Rattle.cb_grammar.specs.declared.tree.PlaceToken.{PlaceToken}
use Rattle.cb_grammar.specs.declared.tree.Member.TheVariants as members
use Rattle.cb_grammar.specs.declared.tree.ClassDecl.{ClassDecl}
use Rattle.cb_grammar.specs.declared.lexeme.Lexeme.{Lexeme}
use Rattle.cb_grammar.specs.declared.lexeme.Lexeme.TheVariants as lexemes
use Rattle.cb_grammar.specs.Grammar.{step_tokens, named_step, parent_tokens}
use Rattle.cb_syntax.specs.Canonical.{spaced, member_text, class_text}
use Rattle.cb_syntax.specs.Written.{relation_written, dot_written, step_written, rule_written, parent_written, head_written}

relation_shape : (a n b g words i s e : List ℕ) → a ++ n ++ b ++ g ++ (words ++ i ++ (s ++ e)) ≡ a ++ ((n ++ (b ++ (g ++ (words ++ (i ++ s))))) ++ e)
relation_shape a n b g words i s e = simp append_assoc refl

pub relation_is : (n g : Token) (m : Bool) (i : Token) → relation_written n g m i ≡ member_text (members.Relation n g m i)
relation_is n g true i = relation_shape (codes "  relation ") n.name (codes " to ") g.name (codes " many inverse ") i.name (codes ";") (codes "\n")
relation_is n g false i = relation_shape (codes "  relation ") n.name (codes " to ") g.name (codes " one inverse ") i.name (codes ";") (codes "\n")

abbrev path_end : Token → List Lexeme
path_end e = lexemes.Name e ∷ lexemes.Semicolon ∷ []

-- a place of a path, after a token that has no space after it
dot_then : (t : Token) (plus : Bool) (rest : List Lexeme) → spaced (lexemes.Dot ∷ (named_step t plus ++ rest)) ≡ codes "." ++ spaced (named_step t plus ++ rest)
dot_then t true rest = refl
dot_then t false rest = refl

arrow_then : (t : Token) (plus : Bool) (rest : List Lexeme) → spaced (lexemes.Arrow ∷ (named_step t plus ++ rest)) ≡ codes "=> " ++ spaced (named_step t plus ++ rest)
arrow_then t true rest = refl
arrow_then t false rest = refl

-- the tokens of a path from its first place on
path_cut : (p : PlaceToken) (ps : List PlaceToken) (e : Token) → flat_map step_tokens (p ∷ ps) ++ path_end e ≡ named_step p.name p.plus ++ (flat_map step_tokens ps ++ path_end e)
path_cut p ps e = append_assoc (step_tokens p) (flat_map step_tokens ps) (path_end e)

dot_spaced : (path : List PlaceToken) (e : Token) → spaced (lexemes.Dot ∷ (flat_map step_tokens path ++ path_end e)) ≡ codes "." ++ spaced (flat_map step_tokens path ++ path_end e)
dot_spaced [] e = refl
dot_spaced (p ∷ ps) e =
    ap (λ ks. spaced (lexemes.Dot ∷ ks)) (path_cut p ps e) ∙ dot_then p.name p.plus (flat_map step_tokens ps ++ path_end e) ∙ ap (λ ks. codes "." ++ spaced ks) (sym (path_cut p ps e))

arrow_spaced : (path : List PlaceToken) (e : Token) → spaced (lexemes.Arrow ∷ (flat_map step_tokens path ++ path_end e)) ≡ codes "=> " ++ spaced (flat_map step_tokens path ++ path_end e)
arrow_spaced [] e = refl
arrow_spaced (p ∷ ps) e =
    ap (λ ks. spaced (lexemes.Arrow ∷ ks)) (path_cut p ps e) ∙ arrow_then p.name p.plus (flat_map step_tokens ps ++ path_end e) ∙ ap (λ ks. codes "=> " ++ spaced ks) (sym (path_cut p ps e))

step_spaced : (t : Token) (plus : Bool) (rest : List Lexeme) → spaced (lexemes.Dot ∷ rest) ≡ codes "." ++ spaced rest → spaced (named_step t plus ++ rest) ≡ (t.name ++ dot_written plus) ++ spaced rest
step_spaced t true rest dot = ap (λ l. t.name ++ (codes "+" ++ l)) dot ∙ sym (append_assoc t.name (codes "+.") (spaced rest))
step_spaced t false rest dot = ap (λ l. t.name ++ l) dot ∙ sym (append_assoc t.name (codes ".") (spaced rest))

path_spaced : (path : List PlaceToken) (e : Token) → spaced (flat_map step_tokens path ++ path_end e) ≡ flat_map step_written path ++ (e.name ++ codes ";")
path_spaced [] e = refl
path_spaced (p ∷ ps) e =
    ap spaced (path_cut p ps e) ∙ step_spaced p.name p.plus (flat_map step_tokens ps ++ path_end e) (dot_spaced ps e)
    ∙ ap (λ l. step_written p ++ l) (path_spaced ps e) ∙ sym (append_assoc (step_written p) (flat_map step_written ps) (e.name ++ codes ";"))

rule_shape : (n c path e : List ℕ) →
    codes "  rule " ++ n ++ codes ": " ++ c ++ codes " => " ++ path ++ (e ++ codes ";\n") ≡ codes "  rule " ++ ((n ++ (codes ": " ++ (c ++ (codes " => " ++ (path ++ (e ++ codes ";")))))) ++ codes "\n")
rule_shape n c path e = simp append_assoc refl

pub rule_is : (n c : Token) (path : List PlaceToken) (e : Token) → rule_written n c path e ≡ member_text (members.Rule n c path e)
rule_is n c path e = rule_shape n.name c.name (flat_map step_written path) e.name ∙ rw (arrow_spaced path e, path_spaced path e) refl

-- a class's head after its word
head_spaced : (n : Token) (p : Option Token) → spaced (lexemes.Name n ∷ (parent_tokens p ++ lexemes.Open ∷ [])) ≡ n.name ++ (parent_written p ++ codes " {")
head_spaced n None = refl
head_spaced n (Some t) = refl

class_shape : (out n p members : List ℕ) →
    out ++ (codes "class " ++ n ++ p ++ codes " {\n") ++ members ++ codes "}\n" ≡ out ++ (codes "class " ++ ((n ++ (p ++ codes " {")) ++ (codes "\n" ++ (members ++ codes "}\n"))))
class_shape out n p members = simp append_assoc refl

pub class_is : (out : List ℕ) (c : ClassDecl) → out ++ head_written c ++ flat_map member_text c.members ++ codes "}\n" ≡ out ++ class_text c
class_is out c =
    class_shape out c.name.name (parent_written c.parent) (flat_map member_text c.members)
    ∙ rw (head_spaced c.name c.parent) (ap (λ l. out ++ (codes "class " ++ l)) (sym (append_assoc (c.name.name ++ (parent_written c.parent ++ codes " {")) (codes "\n") (flat_map member_text c.members ++ codes "}\n"))))

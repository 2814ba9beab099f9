-- The lines of a canonical text as they are written, piece by piece.
use Rattle.std.specs.Prelude.{ℕ, List, [], ◌++◌, codes, Bool, true, false, Option, None, Some}
use Rattle.std.specs.List.{flat_map}
use Rattle.cb_grammar.specs.declared.tree.Token.{Token}
use Rattle.cb_grammar.specs.declared.tree.PlaceToken.{PlaceToken}
use Rattle.cb_grammar.specs.declared.tree.ClassDecl.{ClassDecl}

-- the words before an event's name
abbrev pub event_words : Bool → Bool → List ℕ
event_words true true = codes "  problem symptom "
event_words true false = codes "  problem "
event_words false true = codes "  symptom "
event_words false false = codes "  event "

-- the words before a relation's inverse
abbrev pub count_words : Bool → List ℕ
count_words true = codes " many inverse "
count_words false = codes " one inverse "

-- a line's end: some words and a name
abbrev pub named_written : List ℕ → Token → List ℕ
named_written words n = words ++ n.name ++ codes ";\n"

abbrev pub relation_written : Token → Token → Bool → Token → List ℕ
relation_written n g m i = codes "  relation " ++ n.name ++ codes " to " ++ g.name ++ named_written (count_words m) i

-- what follows the name at a place of a path
abbrev pub dot_written : Bool → List ℕ
dot_written true = codes "+."
dot_written false = codes "."

-- a place of a path
abbrev pub step_written : PlaceToken → List ℕ
step_written p = p.name.name ++ dot_written p.plus

abbrev pub rule_written : Token → Token → List PlaceToken → Token → List ℕ
rule_written n c path e = codes "  rule " ++ n.name ++ codes ": " ++ c.name ++ codes " => " ++ flat_map step_written path ++ named_written [] e

-- the class that is extended, after the class's name
abbrev pub parent_written : Option Token → List ℕ
parent_written None = []
parent_written (Some t) = codes " extends " ++ t.name

abbrev pub head_written : ClassDecl → List ℕ
head_written c = codes "class " ++ c.name.name ++ parent_written c.parent ++ codes " {\n"

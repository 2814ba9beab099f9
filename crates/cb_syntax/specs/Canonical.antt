-- The canonical text of a model.
use Rattle.std.specs.Prelude.{ℕ, List, [], ◌∷◌, ◌++◌, codes, Bool, true, false, if◌then◌else◌, ◌||◌}
use Rattle.std.specs.List.{flat_map}
use Rattle.cb_grammar.specs.declared.tree.Member.{Member}
use Rattle.cb_grammar.specs.declared.tree.ClassDecl.{ClassDecl}
use Rattle.cb_grammar.specs.declared.tree.Tree.{Tree}
use Rattle.cb_grammar.specs.declared.lexeme.Lexeme.{Lexeme}
use Rattle.cb_grammar.specs.declared.lexeme.Lexeme.TheVariants.{Class, Open, Close, Semicolon, Colon, Dot, Plus, Name}
use Rattle.cb_grammar.specs.Grammar.{member_tokens, parent_tokens}
use Rattle.cb_lexer.specs.Tokens.{bytes_of}

-- `;`, `:`, `.` and `+` have no space before them
abbrev pub joins_before : Lexeme → Bool
joins_before Semicolon = true
joins_before Colon = true
joins_before Dot = true
joins_before Plus = true
joins_before k = false

-- `.` has no space after it
abbrev pub joins_beyond : Lexeme → Bool
joins_beyond Dot = true
joins_beyond k = false

-- what stands between two tokens of a line
abbrev pub space_between : Lexeme → Lexeme → List ℕ
space_between k next = if joins_beyond k || joins_before next then [] else codes " "

-- the tokens, with spaces between them
abbrev pub spaced : List Lexeme → List ℕ
spaced [] = []
spaced (k ∷ []) = bytes_of k
spaced (k ∷ next ∷ ks) = bytes_of k ++ (space_between k next ++ spaced (next ∷ ks))

-- a line with these tokens
abbrev pub token_line : List ℕ → List Lexeme → List ℕ
token_line indent ks = indent ++ (spaced ks ++ codes "\n")

-- a member's line begins with two spaces
abbrev pub member_text : Member → List ℕ
member_text m = token_line (codes "  ") (member_tokens m)

-- the tokens up to a class's members
abbrev pub head_tokens : ClassDecl → List Lexeme
head_tokens c = Class ∷ Name c.name ∷ (parent_tokens c.parent ++ Open ∷ [])

-- a class has a line for its head, one for each member, and one for its end
abbrev pub class_text : ClassDecl → List ℕ
class_text c = token_line [] (head_tokens c) ++ (flat_map member_text c.members ++ token_line [] (Close ∷ []))

-- the canonical text of a tree
abbrev pub canonical_text : Tree → List ℕ
canonical_text tree = flat_map class_text tree.classes

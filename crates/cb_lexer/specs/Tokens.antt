-- Which tokens stand in a text.
use Rattle.std.specs.Prelude.{◌≡◌, ℕ, ◌+◌, ◌<◌, ◌≤◌, List, [], ◌∷◌, ◌++◌, length, drop, slice_range, false, None, codes}
use Rattle.cb_text.specs.Names.{is_letter, is_name_byte, name_limit, IsRun, IsName}
use Rattle.cb_grammar.specs.declared.tree.Token.{Token}
use Rattle.cb_grammar.specs.declared.lexeme.Lexeme.{Lexeme}
use Rattle.cb_grammar.specs.declared.lexeme.Lexeme.TheVariants as lexemes
use Rattle.cb_lexer.specs.declared.spot.Spot.{Spot}
use Rattle.cb_lexer.specs.Gaps.{gap_byte, IsGap}
use Rattle.cb_lexer.specs.Places.{line_of}

-- the bytes of a token
abbrev pub bytes_of : Lexeme → List ℕ
bytes_of lexemes.Class = codes "class"
bytes_of lexemes.Extends = codes "extends"
bytes_of lexemes.Problem = codes "problem"
bytes_of lexemes.Symptom = codes "symptom"
bytes_of lexemes.Event = codes "event"
bytes_of lexemes.Relation = codes "relation"
bytes_of lexemes.To = codes "to"
bytes_of lexemes.One = codes "one"
bytes_of lexemes.Many = codes "many"
bytes_of lexemes.Inverse = codes "inverse"
bytes_of lexemes.Rule = codes "rule"
bytes_of lexemes.Block = codes "block"
bytes_of lexemes.Hide = codes "hide"
bytes_of lexemes.Open = codes "{"
bytes_of lexemes.Close = codes "}"
bytes_of lexemes.Semicolon = codes ";"
bytes_of lexemes.Colon = codes ":"
bytes_of lexemes.Dot = codes "."
bytes_of lexemes.Arrow = codes "=>"
bytes_of lexemes.Plus = codes "+"
bytes_of (lexemes.Name t) = t.name

-- a reserved word
abbrev pub IsWord : Lexeme → Type 0
IsWord lexemes.Class = Unit {0}
IsWord lexemes.Extends = Unit {0}
IsWord lexemes.Problem = Unit {0}
IsWord lexemes.Symptom = Unit {0}
IsWord lexemes.Event = Unit {0}
IsWord lexemes.Relation = Unit {0}
IsWord lexemes.To = Unit {0}
IsWord lexemes.One = Unit {0}
IsWord lexemes.Many = Unit {0}
IsWord lexemes.Inverse = Unit {0}
IsWord lexemes.Rule = Unit {0}
IsWord lexemes.Block = Unit {0}
IsWord lexemes.Hide = Unit {0}
IsWord k = ⊥

-- a sign
abbrev pub IsSign : Lexeme → Type 0
IsSign lexemes.Open = Unit {0}
IsSign lexemes.Close = Unit {0}
IsSign lexemes.Semicolon = Unit {0}
IsSign lexemes.Colon = Unit {0}
IsSign lexemes.Dot = Unit {0}
IsSign lexemes.Arrow = Unit {0}
IsSign lexemes.Plus = Unit {0}
IsSign k = ⊥

abbrev pub TextBeginsWith : List ℕ → List ℕ → Type 0
TextBeginsWith bytes prefix = (more : List ℕ) × (bytes ≡ prefix ++ more)

-- a sign of that length begins the bytes
pub record IsSignAt (bytes : List ℕ) (k : Lexeme) (count : ℕ) : Type 0 where
  pub sign : IsSign k
  pub count_is : count ≡ length (bytes_of k)
  pub prefix : TextBeginsWith bytes (bytes_of k)

-- no sign begins the bytes
abbrev pub NoSign : List ℕ → Type 0
NoSign bytes = (k : Lexeme) → IsSign k → TextBeginsWith bytes (bytes_of k) → ⊥

-- the bytes do not begin with one of a name
abbrev pub EndsRun : List ℕ → Type 0
EndsRun [] = Unit {0}
EndsRun (b ∷ bs) = is_name_byte b ≡ false

-- a name with its line and its position, which the rest of the text does not lengthen
pub record IsNameAt (text : List ℕ) (start : ℕ) (t : Token) (rest : List ℕ) : Type 0 where
  pub ends : EndsRun rest
  pub name : IsName t.name
  pub line : t.line ≡ line_of text start
  pub start_is : t.start ≡ start

-- what a token asks at its position: a run of name bytes is the longest, and a name has its line and its position
abbrev pub IsTokenAt : List ℕ → ℕ → Lexeme → List ℕ → Type 0
IsTokenAt text start lexemes.Open rest = Unit {0}
IsTokenAt text start lexemes.Close rest = Unit {0}
IsTokenAt text start lexemes.Semicolon rest = Unit {0}
IsTokenAt text start lexemes.Colon rest = Unit {0}
IsTokenAt text start lexemes.Dot rest = Unit {0}
IsTokenAt text start lexemes.Arrow rest = Unit {0}
IsTokenAt text start lexemes.Plus rest = Unit {0}
IsTokenAt text start (lexemes.Name t) rest = IsNameAt text start t rest
IsTokenAt text start k rest = EndsRun rest

-- token k is the next one from a position on: it begins at start and ends at end
pub record TokenStands (text : List ℕ) (from start : ℕ) (k : Lexeme) (end : ℕ) : Type 0 where
  pub after : from ≤ start
  pub within : end ≤ length text
  pub gap : IsGap (slice_range text from start)
  pub length : end ≡ start + length (bytes_of k)
  pub bytes : slice_range text start end ≡ bytes_of k
  pub whole : IsTokenAt text start k (drop end text)

-- these tokens stand in the text, one after the other, from one position to another
abbrev pub ReadsTokens : List ℕ → ℕ → List Lexeme → ℕ → Type 0
ReadsTokens text from [] to = from ≡ to
ReadsTokens text from (k ∷ ks) to = (start mid : ℕ) × TokenStands text from start k mid × ReadsTokens text mid ks to

-- a name that begins at a position
pub record IsNameFrom (start : Spot) (t : Token) : Type 0 where
  pub name : IsName t.name
  pub line : t.line ≡ start.line
  pub start_is : t.start ≡ start.at

-- a reserved word, or a name that begins at a position
abbrev pub IsWordAt : Spot → Lexeme → Type 0
IsWordAt start (lexemes.Name t) = IsNameFrom start t
IsWordAt start k = IsWord k

-- a run that is no name since it is too long
pub record IsLongRun (text : List ℕ) (start end : ℕ) : Type 0 where
  pub within : end ≤ length text
  pub run : IsRun (slice_range text start end)
  pub long : name_limit < length (slice_range text start end)

-- the bytes begin with one that begins no token and is no part of a gap
abbrev pub BeginsNone : List ℕ → Type 0
BeginsNone [] = ⊥
BeginsNone (b ∷ bs) = (gap_byte false b ≡ None) × (is_letter b ≡ false) × NoSign (b ∷ bs)

-- The first fault of a text that spells no levels.
use Rattle.std.specs.Prelude.{◌≡◌, ◌≢◌, ℕ, ◌+◌, List, [], ◌∷◌, ◌++◌, length, map, Result, Ok, Err}
use Rattle.cb_text.specs.Lines.{lines_of}
use Rattle.cb_levels.specs.declared.fault.LevelText.{LevelText}
use Rattle.cb_levels.specs.declared.fault.LevelText.TheVariants.{BadHeader, BadLine, Truncated, Extra, NoMemory}
use Rattle.cb_levels.specs.declared.levels.Levels.{Levels}
use Rattle.cb_levels.specs.declared.line.LevelLine.{LevelLine}
use Rattle.cb_levels.specs.declared.line.LevelLine.TheVariants.{Header}
use Rattle.cb_levels.specs.Text.{level_lines, level_line_text}
use Rattle.cb_levels.specs.Format.{IsLevels, SpellsLevels}

-- the lines of some levels of the format begin with these
pub record AreFirstLines (lines : List LevelLine) : Type 0 where
  pub of : Levels
  pub is : IsLevels of
  pub more : List LevelLine
  pub are : level_lines of ≡ lines ++ more

-- these are all lines of some levels of the format
abbrev pub AreAllLines : List LevelLine → Type 0
AreAllLines lines = (levels : Levels) × IsLevels levels × (lines ≡ level_lines levels)

-- the text has these lines, and then this one, whose number this is
pub record IsLineAfter (text : List ℕ) (before : List LevelLine) (line : List ℕ) (number : ℕ) : Type 0 where
  pub after : List (List ℕ)
  pub lines : lines_of text ≡ map level_line_text before ++ line ∷ after
  pub number_is : number ≡ length before + 1

-- the first line isn't the header
pub record IsNoHeader (text : List ℕ) : Type 0 where
  pub first : List ℕ
  pub after : List (List ℕ)
  pub lines : lines_of text ≡ first ∷ after
  pub other : first ≢ level_line_text Header

-- a later line is none that levels have there
pub record IsNoLevelLine (text : List ℕ) (number : ℕ) : Type 0 where
  pub before : List LevelLine
  pub line : List ℕ
  pub met : IsLineAfter text before line number
  pub later : before ≢ []
  pub first : AreFirstLines before
  pub open_ended : ¬ AreAllLines before
  pub none : (l : LevelLine) → line ≡ level_line_text l → ¬ AreFirstLines (before ++ l ∷ [])

-- the text ends, and more lines are to come
pub record EndsEarly (text : List ℕ) : Type 0 where
  pub before : List LevelLine
  pub lines : lines_of text ≡ map level_line_text before
  pub first : AreFirstLines before
  pub open_ended : ¬ AreAllLines before

-- a line follows the last one
pub record HasLineTooMany (text : List ℕ) (number : ℕ) : Type 0 where
  pub before : List LevelLine
  pub line : List ℕ
  pub met : IsLineAfter text before line number
  pub whole : AreAllLines before

-- the text's first fault
abbrev pub IsLevelFault : List ℕ → LevelText → Type 0
IsLevelFault text BadHeader = IsNoHeader text
IsLevelFault text (BadLine number) = IsNoLevelLine text number
IsLevelFault text Truncated = EndsEarly text
IsLevelFault text (Extra number) = HasLineTooMany text number
IsLevelFault text NoMemory = ⊥

-- the levels that the text spells, or its first fault
abbrev pub IsLevelReading : List ℕ → Result Levels LevelText → Type 0
IsLevelReading text (Ok levels) = SpellsLevels text levels
IsLevelReading text (Err fault) = IsLevelFault text fault

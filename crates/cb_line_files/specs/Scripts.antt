-- Scripts: one edit or one undo a line.
use Rattle.std.specs.Prelude.{◌≡◌, ◌⊎◌, ℕ, suc, List, [], ◌∷◌, ◌++◌, codes}
use Rattle.std.specs.List.{All}
use Rattle.cb_text.specs.Words.{words_of, IsPassedOver}
use Rattle.cb_text.specs.Lines.{lines_of, HasShortLines, IsLineOf, IsFirstLong}
use Rattle.cb_edits.specs.Spelled.{SpellsEdit}
use Rattle.cb_network.specs.Laws.{HasGoodName}
use Rattle.cb_history.specs.declared.moves.Move.{Move}
use Rattle.cb_history.specs.declared.moves.Move.TheVariants.{Make, Undo}
use Rattle.cb_history.specs.declared.script.ScriptLine.{ScriptLine}
use Rattle.cb_line_files.specs.declared.script.ScriptStop.{ScriptStop}
use Rattle.cb_line_files.specs.declared.script.ScriptStop.TheVariants.{LongLine, BadWords, NoMemory}

-- the words of the line spell the edit, or its one word is `undo`
abbrev pub SpellsMove : List ℕ → Move → Type 0
SpellsMove line (Make edit) = SpellsEdit line edit
SpellsMove line Undo = words_of line ≡ codes "undo" ∷ []

-- the line is ignored, or an edit, or an undo
abbrev pub IsScriptLine : List ℕ → Type 0
IsScriptLine line = IsPassedOver line ⊎ ((move : Move) × SpellsMove line move)

-- what the line of this number gives: nothing where it is ignored, or else its edit or undo
abbrev pub ScriptLineGives : ℕ → List ℕ → List ScriptLine → Type 0
ScriptLineGives number line given =
    (IsPassedOver line × (given ≡ [])) ⊎ ((move : Move) × SpellsMove line move × (given ≡ record { line = number; what = move } ∷ []))

-- what the lines after the first so many give, in order
abbrev pub ScriptGives : ℕ → List (List ℕ) → List ScriptLine → Type 0
ScriptGives passed [] given = given ≡ []
ScriptGives passed (line ∷ lines) given = (first : List ScriptLine) × (later : List ScriptLine) × ScriptLineGives (suc passed) line first
    × ScriptGives (suc passed) lines later × (given ≡ first ++ later)

-- the lines of the text are short, and these are their edits and undos, in order, each with the number of its line
pub record ReadsScript (text : List ℕ) (script : List ScriptLine) : Type 0 where
  pub short : HasShortLines text
  pub gives : ScriptGives 0 (lines_of text) script

-- a new instance of the move has a name by the grammar
abbrev pub HasGoodMove : Move → Type 0
HasGoodMove (Make edit) = HasGoodName edit
HasGoodMove Undo = Unit {0}

-- and so have those of all moves
abbrev pub HaveGoodNames : List ScriptLine → Type 0
HaveGoodNames script = All (λ line. HasGoodMove line.what) script

-- no line is too long, and the line of this number is the first that is neither ignored, nor an edit, nor an undo
pub record IsFirstBadLine (text : List ℕ) (number : ℕ) : Type 0 where
  pub short : HasShortLines text
  pub before : List (List ℕ)
  pub line : List ℕ
  pub is : IsLineOf text number before line
  pub good : All IsScriptLine before
  pub bad : ¬ IsScriptLine line

-- why the text is no script: of its lines, one is too long, or else one is bad
abbrev pub StopsScript : List ℕ → ScriptStop → Type 0
StopsScript text (LongLine number) = IsFirstLong text number
StopsScript text (BadWords number) = IsFirstBadLine text number
StopsScript text NoMemory = Unit {0}

-- Symptom files: one node a line.
use Rattle.std.specs.Prelude.{◌≡◌, ◌⊎◌, ℕ, List, [], ◌∷◌}
use Rattle.std.specs.List.{All, Contains}
use Rattle.cb_text.specs.Names.{IsNodeText}
use Rattle.cb_text.specs.Words.{words_of, IsPassedOver}
use Rattle.cb_text.specs.Lines.{lines_of, HasShortLines, IsLineOf, IsFirstLong}
use Rattle.cb_model.specs.declared.node.NodeName.{NodeName}
use Rattle.cb_model.specs.Order.{Rises}
use Rattle.cb_model.specs.NodeOrder.{node_cmp}
use Rattle.cb_line_files.specs.declared.symptoms.SymptomStop.{SymptomStop}
use Rattle.cb_line_files.specs.declared.symptoms.SymptomStop.TheVariants.{LongLine, BadName, NoMemory}

-- the one word of the line is that node
pub record SpellsNode (line : List ℕ) (node : NodeName) : Type 0 where
  pub word : List ℕ
  pub words : words_of line ≡ word ∷ []
  pub is : IsNodeText word node.event node.instance

-- the line is ignored or one node
abbrev pub IsSymptomLine : List ℕ → Type 0
IsSymptomLine line = IsPassedOver line ⊎ ((node : NodeName) × SpellsNode line node)

-- each line is ignored or one node, and these are the nodes of the lines, in order and each once
pub record ListsNodes (text : List ℕ) (nodes : List NodeName) : Type 0 where
  pub short : HasShortLines text
  pub rise : Rises node_cmp nodes
  pub lines : All IsSymptomLine (lines_of text)
  pub each : (node : NodeName) → Contains nodes node → (line : List ℕ) × Contains (lines_of text) line × SpellsNode line node
  pub all : (node : NodeName) (line : List ℕ) → Contains (lines_of text) line → SpellsNode line node → Contains nodes node

-- no line is too long, and the line of this number is the first that is neither ignored nor one node
pub record IsFirstBad (text : List ℕ) (number : ℕ) : Type 0 where
  pub short : HasShortLines text
  pub before : List (List ℕ)
  pub line : List ℕ
  pub is : IsLineOf text number before line
  pub good : All IsSymptomLine before
  pub bad : ¬ IsSymptomLine line

-- why the text lists no nodes: of its lines, one is too long, or else one is bad
abbrev pub Stops : List ℕ → SymptomStop → Type 0
Stops text (LongLine number) = IsFirstLong text number
Stops text (BadName number) = IsFirstBad text number
Stops text NoMemory = Unit {0}

-- Topology files: one edit a line.
use Rattle.std.specs.Prelude.{◌≡◌, ◌⊎◌, ℕ, List, [], ◌∷◌, Ok, Err}
use Rattle.cb_text.specs.Words.{IsPassedOver}
use Rattle.cb_text.specs.Lines.{lines_of, HasShortLines, IsLineOf, IsFirstLong}
use Rattle.cb_model.specs.declared.tables.Tables.{Tables}
use Rattle.cb_network.specs.declared.edit.Edit.{Edit}
use Rattle.cb_network.specs.Topology.{Topology, empty_topology}
use Rattle.cb_network.specs.Edits.{IsAfter}
use Rattle.cb_edits.specs.Spelled.{SpellsEdit}
use Rattle.cb_line_files.specs.declared.topology.LineFault.{LineFault}
use Rattle.cb_line_files.specs.declared.topology.LineFault.TheVariants.{BadWords, Refused}
use Rattle.cb_line_files.specs.declared.topology.TopologyStop.{TopologyStop}
use Rattle.cb_line_files.specs.declared.topology.TopologyStop.TheVariants.{LongLine, BadLine, NoMemory}

-- the line makes u of t: it is ignored and leaves t, or its edit is accepted
abbrev pub LineMakes : Topology → List ℕ → Topology → Type 0
LineMakes t line u = (IsPassedOver line × (t ≡ u)) ⊎ ((edit : Edit) × SpellsEdit line edit × IsAfter t edit (Ok u))

-- the lines in order make u of t
abbrev pub LinesMake : Topology → List (List ℕ) → Topology → Type 0
LinesMake t [] u = t ≡ u
LinesMake t (line ∷ lines) u = (next : Topology) × LineMakes t line next × LinesMake next lines u

-- the lines of the text are short, and make u of the topology without any instance
pub record MakesTopology (tables : Tables) (text : List ℕ) (u : Topology) : Type 0 where
  pub short : HasShortLines text
  pub makes : LinesMake (empty_topology tables) (lines_of text) u

-- what is wrong with a line, after the topology that the lines before it make
abbrev pub IsWrong : Topology → List ℕ → LineFault → Type 0
IsWrong t line BadWords = (¬ IsPassedOver line) × ((edit : Edit) → ¬ SpellsEdit line edit)
IsWrong t line (Refused why) = (edit : Edit) × SpellsEdit line edit × IsAfter t edit (Err why)

-- no line is too long, and the line of this number is the first that is wrong
pub record IsFirstWrong (tables : Tables) (text : List ℕ) (number : ℕ) (fault : LineFault) : Type 0 where
  pub short : HasShortLines text
  pub before : List (List ℕ)
  pub line : List ℕ
  pub is : IsLineOf text number before line
  pub made : Topology
  pub makes : LinesMake (empty_topology tables) before made
  pub wrong : IsWrong made line fault

-- why the text makes no topology: of its lines, one is too long, or else one is wrong
abbrev pub Stops : Tables → List ℕ → TopologyStop → Type 0
Stops tables text (LongLine number) = IsFirstLong text number
Stops tables text (BadLine number fault) = IsFirstWrong tables text number fault
Stops tables text NoMemory = Unit {0}

-- What one line adds, and why one isn't read.
use Rattle.std.specs.Prelude.{◌≡◌, ◌↔◌, ◌⊎◌, ◌++◌, ℕ, List}
use Rattle.std.specs.List.{Contains}
use Rattle.cb_model.specs.declared.node.NodeName.{NodeName}
use Rattle.cb_edits.specs.declared.stop.EditText.{EditText}
use Rattle.cb_edits.specs.declared.stop.EditText.TheVariants as text
use Rattle.cb_history.specs.declared.moves.Move.{Move}
use Rattle.cb_history.specs.declared.script.ScriptLine.{ScriptLine}
use Rattle.cb_network.specs.Topology.{Topology}
use Rattle.cb_topo.specs.declared.fault.EditFault.{EditFault}
use Rattle.cb_topo.specs.declared.fault.EditFault.TheVariants as edit
use Rattle.cb_line_files.specs.declared.script.ScriptStop.{ScriptStop}
use Rattle.cb_line_files.specs.declared.script.ScriptStop.TheVariants as script
use Rattle.cb_line_files.specs.declared.symptoms.SymptomStop.{SymptomStop}
use Rattle.cb_line_files.specs.declared.symptoms.SymptomStop.TheVariants as symptoms
use Rattle.cb_line_files.specs.declared.topology.LineFault.TheVariants.{BadWords, Refused}
use Rattle.cb_line_files.specs.declared.topology.TopologyStop.{TopologyStop}
use Rattle.cb_line_files.specs.declared.topology.TopologyStop.TheVariants as file
use Rattle.cb_line_files.specs.Scripts.{SpellsMove, IsScriptLine, ScriptLineGives}
use Rattle.cb_line_files.specs.Symptoms.{IsSymptomLine}
use Rattle.cb_line_files.specs.Topologies.{IsWrong}

-- the new nodes are the old ones and those such that P
abbrev pub AddsNodes : (NodeName → Type 0) → List NodeName → List NodeName → Type 0
AddsNodes P old new = (n : NodeName) → Contains new n ↔ (Contains old n ⊎ P n)

-- the line of this number is bad, or there is not memory enough for it
abbrev pub StopsSymptomLine : ℕ → List ℕ → SymptomStop → Type 0
StopsSymptomLine number line (symptoms.LongLine other) = ⊥
StopsSymptomLine number line (symptoms.BadName other) = (other ≡ number) × ¬ IsSymptomLine line
StopsSymptomLine number line symptoms.NoMemory = Unit {0}

-- the line of this number is wrong after this topology, or there is not memory enough for it
abbrev pub StopsTopologyLine : Topology → ℕ → List ℕ → TopologyStop → Type 0
StopsTopologyLine t number line (file.LongLine other) = ⊥
StopsTopologyLine t number line (file.BadLine other fault) = (other ≡ number) × IsWrong t line fault
StopsTopologyLine t number line file.NoMemory = Unit {0}

-- why a line isn't read whose words are no edit
abbrev pub text_stop : ℕ → EditText → TopologyStop
text_stop line text.BadWords = file.BadLine line BadWords
text_stop line text.NoMemory = file.NoMemory

-- why a line isn't read whose edit isn't made
abbrev pub edit_stop : ℕ → EditFault → TopologyStop
edit_stop line (edit.Refused why) = file.BadLine line (Refused why)
edit_stop line edit.NoMemory = file.NoMemory

-- what the line of this number gives stands after the old moves
abbrev pub AddsMove : ℕ → List ℕ → List ScriptLine → List ScriptLine → Type 0
AddsMove number line old new = (given : List ScriptLine) × ScriptLineGives number line given × (new ≡ old ++ given)

-- the words of the line of this number are neither an edit nor an undo, or there is not memory enough for it
abbrev pub StopsMove : ℕ → List ℕ → ScriptStop → Type 0
StopsMove number line (script.LongLine other) = ⊥
StopsMove number line (script.BadWords other) = (other ≡ number) × ((move : Move) → ¬ SpellsMove line move)
StopsMove number line script.NoMemory = Unit {0}

-- the line of this number is bad, or there is not memory enough for it
abbrev pub StopsScriptLine : ℕ → List ℕ → ScriptStop → Type 0
StopsScriptLine number line (script.LongLine other) = ⊥
StopsScriptLine number line (script.BadWords other) = (other ≡ number) × ¬ IsScriptLine line
StopsScriptLine number line script.NoMemory = Unit {0}

-- why a line has no move whose words are no edit
abbrev pub move_stop : ℕ → EditText → ScriptStop
move_stop line text.BadWords = script.BadWords line
move_stop line text.NoMemory = script.NoMemory

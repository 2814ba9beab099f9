-- The topology that the lines of a file make, as far as it is read.
use Rattle.std.proofs.Common.{ℕ, List, [], ◌∷◌, ◌++◌, refl, sym, subst}
use Rattle.cb_network.specs.declared.edit.Edit.{Edit}
use Rattle.cb_network.specs.declared.edit.Edit.TheVariants.{Create, Delete, Link, Unlink, Mute, Unmute}
use Rattle.cb_network.specs.Laws.{HasGoodName}
use Rattle.cb_network.specs.Topology.{Topology}
use Rattle.cb_edits.specs.Spelled.{EditHasNames}
use Rattle.cb_network.specs.Topology.{empty_topology}
use Rattle.cb_model.specs.declared.tables.Tables.{Tables}
use Rattle.cb_line_files.specs.declared.topology.TopologyStop.{TopologyStop}
use Rattle.cb_line_files.specs.declared.topology.TopologyStop.TheVariants.{LongLine, BadLine, NoMemory}
use Rattle.cb_text.specs.Lines.{HasShortLines, IsLineOf}
use Rattle.cb_line_files.specs.Steps.{StopsTopologyLine}
use Rattle.cb_line_files.specs.Topologies.{LineMakes, LinesMake, Stops, IsFirstWrong}

-- a new instance of a spelled edit has a good name
pub good_name : (edit : Edit) → EditHasNames edit → HasGoodName edit
good_name (Create name class) names = names.0
good_name (Delete name) names = tt
good_name (Link a rel b) names = tt
good_name (Unlink a rel b) names = tt
good_name (Mute event name) names = tt
good_name (Unmute event name) names = tt

-- one line more
pub made_more : (t : Topology) (before : List (List ℕ)) (line : List ℕ) (mid u : Topology) → LineMakes mid line u → LinesMake t before mid
    → LinesMake t (before ++ line ∷ []) u
made_more t [] line mid u makes same = (u, subst (λ x. LineMakes x line u) (sym same) makes, refl)
made_more t (first ∷ before) line mid u makes (next, here, later) = (next, here, made_more next before line mid u makes later)

-- the stop of the line of this number is one of the file
pub stops_at : (tables : Tables) (text : List ℕ) (number : ℕ) (before : List (List ℕ)) (line : List ℕ) (made : Topology) (stop : TopologyStop)
    → HasShortLines text → IsLineOf text number before line → LinesMake (empty_topology tables) before made → StopsTopologyLine made number line stop
    → Stops tables text stop
stops_at tables text number before line made (LongLine other) short is makes wrong = absurd wrong
stops_at tables text number before line made (BadLine other fault) short is makes (same, wrong) =
    subst (λ (n : ℕ). IsFirstWrong tables text n fault) (sym same)
    (record { short = short; before = before; line = line; is = is; made = made; makes = makes; wrong = wrong })
stops_at tables text number before line made NoMemory short is makes wrong = tt

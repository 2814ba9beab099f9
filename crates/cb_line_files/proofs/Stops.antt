-- Why a line isn't read, from why its edit isn't read or made.
use Rattle.std.proofs.Common.{ℕ, List, refl, Err}
use Rattle.std.specs.Prelude.{IsErrOf}
use Rattle.cb_text.specs.Words.{IsPassedOver}
use Rattle.cb_network.specs.declared.edit.Edit.{Edit}
use Rattle.cb_network.specs.Topology.{Topology}
use Rattle.cb_edits.specs.Spelled.{SpellsEdit}
use Rattle.cb_edits.specs.declared.stop.EditText.{EditText}
use Rattle.cb_edits.specs.declared.stop.EditText.TheVariants as text
use Rattle.cb_topo.specs.Applied.{Prevents}
use Rattle.cb_topo.specs.Numbered.{Numbered, topology_of}
use Rattle.cb_topo.specs.declared.fault.EditFault.{EditFault}
use Rattle.cb_topo.specs.declared.fault.EditFault.TheVariants as edit
use Rattle.cb_line_files.specs.Steps.{StopsTopologyLine, text_stop, edit_stop}

pub text_stops : (t : Topology) (number : ℕ) (line : List ℕ) (stop : EditText) → ¬ IsPassedOver line
    → (IsErrOf {T = Edit} (Err stop) text.BadWords → (edit : Edit) → ¬ SpellsEdit line edit) → StopsTopologyLine t number line (text_stop number stop)
text_stops t number line text.BadWords not_passed none = (refl, (not_passed, none refl))
text_stops t number line text.NoMemory not_passed none = tt

pub edit_stops : (n : Numbered) (number : ℕ) (line : List ℕ) (e : Edit) (fault : EditFault) → SpellsEdit line e → Prevents n e fault
    → StopsTopologyLine (topology_of n) number line (edit_stop number fault)
edit_stops n number line e (edit.Refused why) spells prevents = (refl, (e, spells, prevents))
edit_stops n number line e edit.NoMemory spells prevents = tt

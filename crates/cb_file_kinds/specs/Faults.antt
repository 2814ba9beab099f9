-- The faults of files by why they aren't read.
use Rattle.std.specs.Prelude.{ℕ, List}
use Rattle.cb_line_files.specs.declared.topology.LineFault.TheVariants.{BadWords, Refused}
use Rattle.cb_line_files.specs.declared.topology.TopologyStop.{TopologyStop}
use Rattle.cb_line_files.specs.declared.topology.TopologyStop.TheVariants as topology
use Rattle.cb_line_files.specs.declared.script.ScriptStop.{ScriptStop}
use Rattle.cb_line_files.specs.declared.script.ScriptStop.TheVariants as script
use Rattle.cb_line_files.specs.declared.symptoms.SymptomStop.{SymptomStop}
use Rattle.cb_line_files.specs.declared.symptoms.SymptomStop.TheVariants as symptoms
use Rattle.cb_report.specs.declared.fault.Fault.{Fault}
use Rattle.cb_io.specs.declared.whole.ReadStop.{ReadStop}
use Rattle.cb_io.specs.declared.whole.ReadStop.TheVariants as stops
use Rattle.cb_report.specs.declared.fault.Fault.TheVariants.{Edit, EditWords, SymptomLine, ScriptWords, LimitBytes, LimitLine, ReadFault, Memory}

-- of a file that isn't read whole
abbrev pub fault_of_stop : List ℕ → ReadStop → Fault
fault_of_stop name stops.TooMuch = LimitBytes name
fault_of_stop name stops.ReadFault = ReadFault name
fault_of_stop name stops.NoMemory = Memory

-- of a topology file
abbrev pub fault_of_topology : List ℕ → TopologyStop → Fault
fault_of_topology name (topology.LongLine line) = LimitLine name line
fault_of_topology name (topology.BadLine line BadWords) = EditWords line
fault_of_topology name (topology.BadLine line (Refused why)) = Edit line why
fault_of_topology name topology.NoMemory = Memory

-- of a symptom file
abbrev pub fault_of_symptoms : List ℕ → SymptomStop → Fault
fault_of_symptoms name (symptoms.LongLine line) = LimitLine name line
fault_of_symptoms name (symptoms.BadName line) = SymptomLine line
fault_of_symptoms name symptoms.NoMemory = Memory

-- of a script
abbrev pub fault_of_script : List ℕ → ScriptStop → Fault
fault_of_script name (script.LongLine line) = LimitLine name line
fault_of_script name (script.BadWords line) = ScriptWords line
fault_of_script name script.NoMemory = Memory

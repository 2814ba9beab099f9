-- Why a log isn't followed to its end, and what is wrong then.
use Rattle.std.specs.Prelude.{ℕ, List}
use Rattle.cb_io.specs.declared.whole.ReadStop.{ReadStop}
use Rattle.cb_io.specs.declared.whole.ReadStop.TheVariants as reads
use Rattle.cb_report.specs.declared.fault.Fault.{Fault}
use Rattle.cb_report.specs.declared.fault.Fault.TheVariants as faults
use Rattle.cb_log_commands.specs.declared.stop.LogStop.{LogStop}
use Rattle.cb_log_commands.specs.declared.stop.LogStop.TheVariants as stops

-- where a read is refused
abbrev pub stop_of_read : ReadStop → LogStop
stop_of_read reads.ReadFault = stops.ReadFault
stop_of_read reads.TooMuch = stops.TooMuch
stop_of_read reads.NoMemory = stops.NoMemory

-- what is wrong with a log of this name
abbrev pub fault_of_log_stop : List ℕ → LogStop → Fault
fault_of_log_stop name stops.ReadFault = faults.ReadFault name
fault_of_log_stop name stops.TooMuch = faults.LimitBytes name
fault_of_log_stop name stops.WriteFault = faults.WriteFault
fault_of_log_stop name stops.NoMemory = faults.Memory

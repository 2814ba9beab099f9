use Rattle.cb_report.proofs.MemoryLines.{memory_has_one_line as proved}
use Rattle.cb_report.proofs.laws.memory_has_one_line.Goals as goal

pub returns : goal.returns
returns c = proved

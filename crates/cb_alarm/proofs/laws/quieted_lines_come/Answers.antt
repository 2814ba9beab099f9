use Rattle.cb_alarm.proofs.QuietLines.{quieted_lines}
use Rattle.cb_alarm.proofs.laws.quieted_lines_come.Goals as goal

pub returns : goal.returns
returns c = quieted_lines

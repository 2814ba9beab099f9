use Rattle.cb_alarm.proofs.QuietLines.{log_alone}
use Rattle.cb_alarm.proofs.laws.source_lines_stand_alone.Goals as goal

pub returns : goal.returns
returns c = λ t mode w source log. log_alone source t mode w log

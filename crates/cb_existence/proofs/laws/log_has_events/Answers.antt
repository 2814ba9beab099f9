use Rattle.std.proofs.Common.{◌++◌, [], refl}
use Rattle.cb_alarm.specs.Lines.{log_lines}
use Rattle.cb_log.specs.Entries.{records_of}
use Rattle.cb_existence.proofs.EventsExist.{entries_give, end_gives}
use Rattle.cb_existence.proofs.LineEntries.{lines_come}
use Rattle.cb_existence.proofs.laws.log_has_events.Goals as goal

pub returns : goal.returns
returns c = λ t mode w log regular.
    let (entries, come) = lines_come (log_lines log) in
    let (body, body_is) = entries_give t regular mode w [] entries in
    let (ends, ends_are) = end_gives t regular mode w (records_of entries) in
    (body ++ ends, record { entries = entries; come = come; body = body; body_is = body_is; ends = ends; ends_are = ends_are; events_are = refl })

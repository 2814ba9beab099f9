use Rattle.std.proofs.Common.{[]}
use Rattle.cb_existence.proofs.EventsExist.{entries_give}
use Rattle.cb_existence.proofs.LineEntries.{lines_come}
use Rattle.cb_existence.proofs.laws.lines_have_events.Goals as goal

pub returns : goal.returns
returns c = λ t mode w lines regular.
    let (entries, come) = lines_come lines in
    let (events, gives) = entries_give t regular mode w [] entries in
    (events, (entries, come, gives))

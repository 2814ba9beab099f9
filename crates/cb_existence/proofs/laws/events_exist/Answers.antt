use Rattle.std.proofs.Common.{[]}
use Rattle.cb_log.specs.Entries.{records_of}
use Rattle.cb_existence.proofs.EventsExist.{entries_give, end_gives}
use Rattle.cb_existence.proofs.laws.events_exist.Goals as goal

pub returns : goal.returns
returns c = λ t mode w entries regular.
    let (events, gives) = entries_give t regular mode w [] entries in
    let (ends, ending) = end_gives t regular mode w (records_of entries) in
    (events, ends, gives, ending)

-- What an entry makes of a session, whatever the session stands for.
use Rattle.std.specs.Prelude.{◌++◌, List, [], ◌∷◌, length}
use Rattle.cb_network.specs.Regular.{IsRegular}
use Rattle.cb_network.specs.Topology.{Topology}
use Rattle.cb_log.specs.declared.closed.Closed.{Closed}
use Rattle.cb_log.specs.declared.event.Event.{Event}
use Rattle.cb_log.specs.declared.record.Record.{Record}
use Rattle.cb_log.specs.Closing.{AreClosing}
use Rattle.cb_log.specs.Entries.{LogEntry, records_of}
use Rattle.cb_log.specs.Events.{EntryGives, EndGives}
use Rattle.cb_log.specs.Kept.{Kept, StandsForRecords}
use Rattle.cb_session.specs.State.{State, StandsForEntries}

-- these events result from the entry
abbrev pub EntryTells : State → LogEntry → List Event → Type 0
EntryTells s entry events = (opening : Topology) (before : List LogEntry) → IsRegular opening.model → StandsForEntries s opening before
    → EntryGives opening s.mode s.windows.length (records_of before) entry events

-- the session stands for what it stood for, with the entry after it
abbrev pub EntryStands : State → State → LogEntry → Type 0
EntryStands old new entry = (opening : Topology) (before : List LogEntry) → IsRegular opening.model → StandsForEntries old opening before
    → StandsForEntries new opening (before ++ entry ∷ [])

-- these windows close at the end, whatever records they are over
abbrev pub ClosesAtEnd : Kept → List Closed → Type 0
ClosesAtEnd windows closing = (records : List Record) → StandsForRecords windows records → AreClosing records windows.length (length records) closing

-- these events result from the end
abbrev pub TellsAtEnd : State → List Event → Type 0
TellsAtEnd s events = (opening : Topology) (before : List LogEntry) → StandsForEntries s opening before
    → EndGives opening s.mode s.windows.length (records_of before) events

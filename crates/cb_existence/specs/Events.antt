-- Each log has events, and its edits have a cost.
use Rattle.std.specs.Prelude.{ℕ, ◌⊎◌, List, []}
use Rattle.cb_change.specs.InTurn.{IsCostInTurn}
use Rattle.cb_network.specs.Regular.{IsRegular}
use Rattle.cb_network.specs.Sound.{Sound}
use Rattle.cb_network.specs.Topology.{Topology}
use Rattle.cb_log.specs.declared.event.Event.{Event}
use Rattle.cb_log.specs.declared.record.Record.{Record}
use Rattle.cb_log.specs.Basis.{Mode, Basis}
use Rattle.cb_log.specs.Entries.{LogEntry, records_of}
use Rattle.cb_log.specs.Events.{HasBook, EntryGives, EntriesGive, EndGives}
use Rattle.cb_log.specs.Network.{edits_of}
use Rattle.cb_alarm.specs.Lines.{NumberedLine, ComesTo, ComeTo, LinesGive, LogGives}

-- a codebook is in use after records, or none is
abbrev pub BookIsKnown : Type 0
BookIsKnown = (t : Topology) (w : ℕ) (records : List Record) → IsRegular t.model → HasBook t w records ⊎ (¬ HasBook t w records)

-- a topology has a basis in each mode
abbrev pub BasisExists : Type 0
BasisExists = (network : Topology) (mode : Mode) → IsRegular network.model → Basis network mode

-- an entry gives a list of events, whichever records came before it
abbrev pub EntryHasEvents : Type 0
EntryHasEvents = (t : Topology) (mode : Mode) (w : ℕ) (records : List Record) (entry : LogEntry) → IsRegular t.model
    → (events : List Event) × EntryGives t mode w records entry events

-- so does the end of a log
abbrev pub EndHasEvents : Type 0
EndHasEvents = (t : Topology) (mode : Mode) (w : ℕ) (records : List Record) → IsRegular t.model → (events : List Event) × EndGives t mode w records events

-- a log has events, those of its entries and those of its end
abbrev pub EventsExist : Type 0
EventsExist = (t : Topology) (mode : Mode) (w : ℕ) (entries : List LogEntry) → IsRegular t.model
    → (events : List Event) × (ends : List Event) × EntriesGive t mode w [] entries events × EndGives t mode w (records_of entries) ends

-- a line comes to an entry
abbrev pub LineHasEntry : Type 0
LineHasEntry = (line : NumberedLine) → (entry : LogEntry) × ComesTo line entry

-- lines give events, the end of the log left aside
abbrev pub LinesHaveEvents : Type 0
LinesHaveEvents = (t : Topology) (mode : Mode) (w : ℕ) (lines : List NumberedLine) → IsRegular t.model → (events : List Event) × LinesGive t mode w lines events

-- the bytes of a log give events
abbrev pub LogHasEvents : Type 0
LogHasEvents = (t : Topology) (mode : Mode) (w : ℕ) (log : List ℕ) → IsRegular t.model → (events : List Event) × LogGives t mode w log events

-- the edits in lines have a cost, each made of the topology that those before it leave
abbrev pub LinesHaveCost : Type 0
LinesHaveCost = (t : Topology) (lines : List NumberedLine) → IsRegular t.model → Sound t
    → (cost : ℕ) × (entries : List LogEntry) × ComeTo lines entries × IsCostInTurn t (edits_of (records_of entries)) cost

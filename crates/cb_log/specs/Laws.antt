-- What holds of logs, whatever the program does.
use Rattle.std.specs.Prelude.{◌≡◌, ◌↔◌, ◌⊎◌, ◌<◌, ◌≤◌, ℕ, IsTrue, Result, max, ◌++◌, List, [], ◌∷◌, length}
use Rattle.std.specs.List.{Contains}
use Rattle.cb_model.specs.declared.node.NodeName.{NodeName}
use Rattle.cb_model.specs.declared.wish.Wish.{Wish}
use Rattle.cb_coding.specs.Answers.{from_word}
use Rattle.cb_coding.specs.Groups.{codes_of}
use Rattle.cb_coding.specs.Used.{IsRadius, AsksSomething}
use Rattle.cb_network.specs.declared.edit.Edit.{Edit}
use Rattle.cb_network.specs.declared.edit.EditRefusal.{EditRefusal}
use Rattle.cb_network.specs.Edits.{IsAfter, result_or}
use Rattle.cb_finding.specs.Finding.{named_groups, word_of}
use Rattle.cb_network.specs.Regular.{IsRegular}
use Rattle.cb_network.specs.Topology.{Topology}
use Rattle.cb_log.specs.declared.closed.Closed.{Closed}
use Rattle.cb_log.specs.declared.event.Event.{Event}
use Rattle.cb_log.specs.declared.record.Body.TheVariants.{Raise, Clear, Change}
use Rattle.cb_log.specs.declared.record.Record.{Record}
use Rattle.cb_log.specs.Basis.{Mode, wanted, Basis, IsDiagnosis}
use Rattle.cb_log.specs.Closing.{ClosesAt, AreClosing}
use Rattle.cb_log.specs.Entries.{LogEntry, records_of}
use Rattle.cb_log.specs.Events.{HasBook, EntryGives, EntriesGive, EndGives}
use Rattle.cb_log.specs.Kept.{Kept, fresh, StandsForRecords}
use Rattle.cb_log.specs.Network.{then_edits, IsNow, IsAcceptedAt}
use Rattle.cb_log.specs.Passing.{TimePasses, Raises, Clears, AreDue, AreOpen}
use Rattle.cb_log.specs.Records.{IsByNone}
use Rattle.cb_log.specs.Sources.{quieted, diagnoses_of, SourceAlone}
use Rattle.cb_log.specs.Whole.{OneForEach, is_thin, TellsThin, KeepsApart}
use Rattle.cb_log.specs.Windows.{Window, AreWindows}

-- a source has one list of windows
abbrev pub WindowsAreOne : Type 0
WindowsAreOne = (records : List Record) (w : ℕ) (source : List ℕ) (xs ys : List Window) → AreWindows records w source xs
    → AreWindows records w source ys → xs ≡ ys

-- at a position one list of windows closes
abbrev pub ClosingIsOne : Type 0
ClosingIsOne = (records : List Record) (w place : ℕ) (xs ys : List Closed) → AreClosing records w place xs
    → AreClosing records w place ys → xs ≡ ys

-- with no open window, at time 0, it stands for no records
abbrev pub FreshStands : Type 0
FreshStands = (w : ℕ) → StandsForRecords (fresh w) []

-- where time goes by and the windows that are due go, what is kept stands for the records with one more that is no raise and no clear
abbrev pub PassingStands : Type 0
PassingStands = (old new : Kept) (records : List Record) (r : Record) → TimePasses old new r.at
    → IsByNone r → StandsForRecords old records → StandsForRecords new (records ++ r ∷ [])

-- where the node is raised besides, it stands for the records with one more that is this raise
abbrev pub RaisingStands : Type 0
RaisingStands = (old new : Kept) (records : List Record) (r : Record) (source : List ℕ) (node : NodeName) → Raises old new r.at source node
    → r.body ≡ Raise source node → StandsForRecords old records → StandsForRecords new (records ++ r ∷ [])

-- where the node is then cleared, it stands for the records with one more that is this clear
abbrev pub ClearingStands : Type 0
ClearingStands = (old passed new : Kept) (records : List Record) (r : Record) (source : List ℕ) (node : NodeName) → TimePasses old passed r.at
    → Clears passed new source node → r.body ≡ Clear source node → StandsForRecords old records → StandsForRecords new (records ++ r ∷ [])

-- the windows that are due are those that the next record closes
abbrev pub DueAreClosing : Type 0
DueAreClosing = (kept : Kept) (records : List Record) (r : Record) (closing : List Closed) → StandsForRecords kept records
    → AreDue kept (max kept.now r.at) closing → AreClosing (records ++ r ∷ []) kept.length (length records) closing

-- all open windows are those that the end closes
abbrev pub OpenAreClosing : Type 0
OpenAreClosing = (kept : Kept) (records : List Record) (closing : List Closed) → StandsForRecords kept records
    → AreOpen kept closing → AreClosing records kept.length (length records) closing

-- a source has windows
abbrev pub WindowsExist : Type 0
WindowsExist = (records : List Record) (w : ℕ) (source : List ℕ) → (windows : List Window) × AreWindows records w source windows

-- the windows that close at a record do so whatever follows
abbrev pub ClosingStays : Type 0
ClosingStays = (records later : List Record) (w place : ℕ) (closing : List Closed) → place < length records
    → AreClosing records w place closing → AreClosing (records ++ later) w place closing

-- from a topology of a checked model, one list of events results from entries, and one from the end
abbrev pub EventsAreOne : Type 0
EventsAreOne = (t : Topology) (mode : Mode) (w : ℕ) (before entries : List LogEntry) (xs ys : List Event) → IsRegular t.model
    → (EntriesGive t mode w before entries xs → EntriesGive t mode w before entries ys → xs ≡ ys)
    × (EndGives t mode w (records_of before) xs → EndGives t mode w (records_of before) ys → xs ≡ ys)

-- the events of a log have one diagnosis for each window, in the order in which the windows close, by the topology of that moment
abbrev pub EachWindowIsDiagnosed : Type 0
EachWindowIsDiagnosed = (t : Topology) (mode : Mode) (w : ℕ) (entries : List LogEntry) (events ends : List Event)
    → EntriesGive t mode w [] entries events → EndGives t mode w (records_of entries) ends
    → OneForEach t mode w (records_of entries) (events ++ ends)

-- each event of a log that says that two groups are too close names two that are, with their distance, by the topology of that moment; none
-- comes where all groups are as far apart as wanted, nor where 1 is wanted, nor for a cap
abbrev pub ThinsAreClose : Type 0
ThinsAreClose = (t : Topology) (mode : Mode) (w : ℕ) (entries : List LogEntry) (events ends : List Event)
    → EntriesGive t mode w [] entries events → EndGives t mode w (records_of entries) ends
    → (event : Event) → Contains (events ++ ends) event → IsTrue (is_thin event) → TellsThin t mode w (records_of entries) event

-- the same of the events so far, while a log goes on
abbrev pub ThinsSoFarAreClose : Type 0
ThinsSoFarAreClose = (t : Topology) (mode : Mode) (w : ℕ) (entries : List LogEntry) (events : List Event) → EntriesGive t mode w [] entries events
    → (event : Event) → Contains events event → IsTrue (is_thin event) → TellsThin t mode w (records_of entries) event

-- over the codebook for a wish each two groups are as far apart as they need by the wish that is met
abbrev pub WantedKeepsApart : Type 0
WantedKeepsApart = (network : Topology) (wish : Wish) (basis : Basis network (wanted wish)) → AsksSomething wish → KeepsApart basis

-- where no more symptoms of a group are lost or spurious than its own radius says, the diagnosis lists that group alone, and is sure
abbrev pub CauseIsNamedAlone : Type 0
CauseIsNamedAlone = (network : Topology) (mode : Mode) (basis : Basis network mode) (c : Closed) (event : Event) (d : IsDiagnosis basis c event) (i r : ℕ)
    → KeepsApart basis → i < length basis.groups → IsRadius (length basis.columns) (codes_of basis.groups) basis.used i r
    → from_word basis.kept (codes_of basis.groups) (word_of basis.columns c.nodes) i ≤ r
    → (d.finding.groups ≡ named_groups basis.groups (i ∷ [])) × IsTrue d.finding.sure

-- the diagnoses of a source are those of the log in which the other sources say nothing, line by line and at the end
abbrev pub SourcesAreIndependent : Type 0
SourcesAreIndependent = (t : Topology) (mode : Mode) (w : ℕ) (source : List ℕ) (before entries : List LogEntry) (events quiet : List Event)
    → IsRegular t.model
    → (EntriesGive t mode w before entries events → EntriesGive t mode w (quieted source before) (quieted source entries) quiet
    → diagnoses_of source events ≡ diagnoses_of source quiet)
    × (EndGives t mode w (records_of before) events → EndGives t mode w (records_of (quieted source before)) quiet
    → diagnoses_of source events ≡ diagnoses_of source quiet)

-- a codebook is in use after a record exactly where it was before, or the record closes a window, and the record isn't an accepted edit
abbrev pub BookInUseSteps : Type 0
BookInUseSteps = (t : Topology) (records : List Record) (r : Record) (w : ℕ) → HasBook t w (records ++ r ∷ [])
    ↔ ((HasBook t w records ⊎ ((c : Closed) × ClosesAt (records ++ r ∷ []) w (length records) c))
    × ¬ IsAcceptedAt t (records ++ r ∷ []) (length records))

-- the events of entries with one more are those of the entries, and then those of the one after them
abbrev pub EventsGoOn : Type 0
EventsGoOn = (t : Topology) (mode : Mode) (w : ℕ) (before entries : List LogEntry) (entry : LogEntry) (events more : List Event)
    → EntriesGive t mode w before entries events → EntryGives t mode w (records_of (before ++ entries)) entry more
    → EntriesGive t mode w before (entries ++ entry ∷ []) (events ++ more)

-- the topology after the records with one more: an edit makes of it what it comes to, and any other record leaves it
abbrev pub TopologyGoesOn : Type 0
TopologyGoesOn = (t u : Topology) (records : List Record) (r : Record) → IsNow t records u
    → ((edit : Edit) (result : Result Topology EditRefusal) → r.body ≡ Change edit → IsAfter u edit result → IsNow t (records ++ r ∷ []) (result_or u result))
    × (then_edits r.body [] ≡ [] → IsNow t (records ++ r ∷ []) u)

-- the diagnoses of a source in a log are those in the log in which the other sources say nothing, which has events too
abbrev pub SourceStandsAlone : Type 0
SourceStandsAlone = (t : Topology) (mode : Mode) (w : ℕ) (source : List ℕ) (entries : List LogEntry) (events ends : List Event) → IsRegular t.model
    → EntriesGive t mode w [] entries events → EndGives t mode w (records_of entries) ends → SourceAlone t mode w source entries (events ++ ends)

-- A log that is followed, line by line: where it stands between two lines, and what the next call makes of that.
use Rattle.std.specs.Prelude.{◌≡◌, ℕ, ◌≤◌, ◌++◌, List, [], ◌∷◌, length, map, Bool, true, false, Option, None, Some, IfSome, Result, Ok, Err}
use Rattle.std.specs.List.{All, enumerate_from, flat_map}
use Rattle.cb_io.specs.declared.line_reader.Line.{Line as Given}
use Rattle.cb_io.specs.declared.line_reader.Line.TheVariants as given
use Rattle.cb_io.specs.declared.whole.ReadStop.{ReadStop}
use Rattle.cb_io.specs.declared.whole.ReadStop.TheVariants as reads
use Rattle.cb_io.specs.LineReading.{Reading, coming, IsOneLine, BeginWith, RunsOver, StopsWithin}
use Rattle.cb_io.specs.Outside.{FilesReport, SinkReport, left_of, WritesAll}
use Rattle.cb_log.specs.declared.event.Event.{Event}
use Rattle.cb_log.specs.Entries.{LogEntry, records_of}
use Rattle.cb_log.specs.Events.{EntryGives, EntriesGive, EndGives}
use Rattle.cb_network.specs.Regular.{IsRegular}
use Rattle.cb_network.specs.Topology.{Topology}
use Rattle.cb_alarm.specs.Lines.{NumberedLine, numbered_line, log_line_limit, ComesTo, ComeTo}
use Rattle.cb_report.specs.EventTexts.{events_text}
use Rattle.cb_report.specs.declared.fault.Fault.{Fault}
use Rattle.cb_outcome.specs.LogJobs.{Watch, WholeTells, log_limit}
use Rattle.cb_session.specs.State.{State, StandsForEntries}
use Rattle.cb_log_commands.specs.declared.stop.LogStop.{LogStop}
use Rattle.cb_log_commands.specs.Following.{EndsLog}
use Rattle.cb_file_kinds.specs.Kinds.{ReadsOnly}
use Rattle.cb_log_commands.specs.Stops.{fault_of_log_stop}

-- the bytes of lines, each ended by a LF, which is 10
abbrev pub joined : List (List ℕ) → List ℕ
joined lines = flat_map (λ line. line ++ 10 ∷ []) lines

-- the lines of a log, from the first one on
abbrev pub numbered : List (List ℕ) → List NumberedLine
numbered lines = map numbered_line (enumerate_from 1 lines)

-- A log, read up to a line's end: these bytes come, and this text was given, after what the watch opens with.
pub record IsLogAt (watch : Watch) (log : List ℕ) (number given : ℕ) (rest : List ℕ) (session : State) (reported : List ℕ) : Type 0 where
  pub lines : List (List ℕ)
  pub one_each : All IsOneLine lines
  pub log_is : log ≡ joined lines ++ rest
  pub number_is : number ≡ length lines
  pub given_is : given ≡ length (joined lines)
  pub within : given ≤ log_limit
  pub entries : List LogEntry
  pub come : ComeTo (numbered lines) entries
  pub events : List Event
  pub gives : EntriesGive watch.from watch.mode watch.window [] entries events
  pub reported_is : reported ≡ watch.opening ++ events_text events
  pub mode : session.mode ≡ watch.mode
  pub window : session.windows.length ≡ watch.window
  pub stands : StandsForEntries session watch.from entries

-- what a session tells of one more line: this text, by what the line comes to
pub record StepTells (old new : State) (opening : Topology) (before : List LogEntry) (entry : LogEntry) (text : List ℕ) : Type 0 where
  pub events : List Event
  pub gives : EntryGives opening old.mode old.windows.length (records_of before) entry events
  pub text_is : text ≡ events_text events
  pub stands : StandsForEntries new opening (before ++ entry ∷ [])

-- the text of a line, whatever log the session stands for before
pub record TellsLine (old new : State) (line : NumberedLine) (text : List ℕ) : Type 0 where
  pub entry : LogEntry
  pub comes : ComesTo line entry
  pub tells : (opening : Topology) (before : List LogEntry) → IsRegular opening.model → StandsForEntries old opening before
      → StepTells old new opening before entry text

-- of the line that a reader gave, whose bytes are these where it isn't too long; nothing where it gave none
abbrev pub TellsGiven : State → State → Given → List ℕ → List ℕ → Type 0
TellsGiven old new (given.Text number) bytes text = TellsLine old new (NumberedLine.text number bytes) text
TellsGiven old new (given.Long number) bytes text = TellsLine old new (NumberedLine.long number) text
TellsGiven old new given.End bytes text = (new ≡ old) × (text ≡ [])

-- what a session tells of the end
abbrev pub TellsEnd : State → List ℕ → Type 0
TellsEnd session text = (opening : Topology) (before : List LogEntry) → IsRegular opening.model → StandsForEntries session opening before
    → (ends : List Event) × EndGives opening session.mode session.windows.length (records_of before) ends × (text ≡ events_text ends)

-- ---- the next piece: what is reported of a line, and of the end where no line follows

-- a line came that a LF ends, and the log is read up to its end
pub record ComesNext (watch : Watch) (log : List ℕ) (old new : Reading) (after : FilesReport) (session : State) (reported text bytes : List ℕ) : Type 0 where
  pub line : List ℕ
  pub rest : List ℕ
  pub begin : BeginWith bytes line rest
  pub comes : coming new after ≡ Some rest
  pub is_at : IsLogAt watch log new.number new.given rest session (reported ++ text)

-- the end came, after a line or none
pub record ComesLast (watch : Watch) (log : List ℕ) (old new : Reading) (after : FilesReport) (reported text bytes : List ℕ) : Type 0 where
  pub one : IsOneLine bytes
  pub comes : coming new after ≡ Some []
  pub tells : WholeTells watch log (reported ++ text)
  pub within : length log ≤ log_limit

-- one or the other, by whether the end has come
abbrev pub LogComes : Bool → Watch → List ℕ → Reading → Reading → FilesReport → State → List ℕ → List ℕ → List ℕ → Type 0
LogComes false watch log old new after session reported text bytes = ComesNext watch log old new after session reported text bytes
LogComes true watch log old new after session reported text bytes = ComesLast watch log old new after reported text bytes

-- what the text of the next piece says, where these bytes were to come
abbrev pub PieceSays : Reading → Reading → FilesReport → State → State → List ℕ → List ℕ → Type 0
PieceSays old new after session session' text bytes = (watch : Watch) (log reported : List ℕ) → IsRegular watch.from.model
    → IsLogAt watch log old.number old.given bytes session reported → LogComes new.ended watch log old new after session' reported text bytes

-- what it says that there is none
abbrev pub StopSays : Reading → FilesReport → ReadStop → List ℕ → Type 0
StopSays old after reads.TooMuch bytes = RunsOver old after bytes
StopSays old after reads.ReadFault bytes = StopsWithin old after bytes
StopSays old after reads.NoMemory bytes = Unit {0}

-- ---- the log as a whole

-- lines of a log are read, within its limits
pub record ReadsLog (reader : Reading) : Type 0 where
  pub line_most : reader.line_most ≡ log_line_limit
  pub total_most : reader.total_most ≡ log_limit
  pub going : reader.refused ≡ false

-- what was given is written, and these bytes come
pub record HasReported (watch : Watch) (log : List ℕ) (reader : Reading) (files : FilesReport) (session : State) (out out' : SinkReport) : Type 0 where
  pub rest : List ℕ
  pub comes : coming reader files ≡ Some rest
  pub reported : List ℕ
  pub is_at : IsLogAt watch log reader.number reader.given rest session reported
  pub written : WritesAll out out' reported

-- The log is followed as the watch says. `now` and `out` are reported before it is read.
pub record Going (watch : Watch) (now : FilesReport) (out : SinkReport) (reader : Reading) (files : FilesReport) (out' : SinkReport) (session : State) : Type 0 where
  pub regular : IsRegular watch.from.model
  pub only : ReadsOnly reader.name now files
  pub faults : out.faults ≤ out'.faults
  pub reported : IfSome (left_of now reader.name) (λ log. HasReported watch log reader files session out out')

-- what is wrong where following a log of this name ends so
abbrev pub wrong_of : List ℕ → Result (Unit {0}) LogStop → Option Fault
wrong_of name (Ok done) = None
wrong_of name (Err stop) = Some (fault_of_log_stop name stop)

-- where the next piece was written it goes on, unless that was the last; and else it has ended
abbrev pub GoesOrEnds : Watch → FilesReport → SinkReport → Reading → FilesReport → SinkReport → State → Result Bool LogStop → Type 0
GoesOrEnds watch now out reader files out' session (Ok false) = Going watch now out reader files out' session
GoesOrEnds watch now out reader files out' session (Ok true) = EndsLog watch reader.name now files out out' None
GoesOrEnds watch now out reader files out' session (Err stop) = EndsLog watch reader.name now files out out' (Some (fault_of_log_stop reader.name stop))

-- A session stands at the beginning of a log, and what the watch opens with is written.
pub record OpensLog (watch : Watch) (session : State) (out out' : SinkReport) : Type 0 where
  pub regular : IsRegular watch.from.model
  pub mode : session.mode ≡ watch.mode
  pub window : session.windows.length ≡ watch.window
  pub stands : StandsForEntries session watch.from []
  pub written : WritesAll out out' watch.opening
  pub faults : out.faults ≤ out'.faults

-- A session stands at the beginning of a log, and this is what the watch opens with.
pub record OpensAfter (watch : Watch) (opening : List ℕ) (session : State) : Type 0 where
  pub regular : IsRegular watch.from.model
  pub mode : session.mode ≡ watch.mode
  pub window : session.windows.length ≡ watch.window
  pub stands : StandsForEntries session watch.from []
  pub opening_is : opening ≡ watch.opening

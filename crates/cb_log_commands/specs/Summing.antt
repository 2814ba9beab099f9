-- A log that is summed up: where it stands between two lines, and what is counted of it.
use Rattle.std.specs.Prelude.{◌≡◌, ℕ, List, [], ◌∷◌, length, Bool, true, false, Some, Result, Ok, Err}
use Rattle.cb_alarm.specs.Lines.{NumberedLine, ComeTo}
use Rattle.cb_log.specs.declared.event.Event.{Event}
use Rattle.cb_log.specs.declared.event.Event.TheVariants.{Skipped}
use Rattle.cb_log.specs.Entries.{LogEntry, records_of}
use Rattle.cb_log.specs.Events.{EntriesGive}
use Rattle.cb_network.specs.Topology.{Topology}
use Rattle.cb_report.specs.Text.{bytes_of_text}
use Rattle.cb_report.specs.declared.fault.Fault.{Fault}
use Rattle.cb_report.specs.declared.summary.Summary.{Summary}
use Rattle.cb_report.specs.SummaryText.{CountsEvents, grow_text}
use Rattle.cb_outcome.specs.Grown.{SumsUp}
use Rattle.cb_session.specs.State.{State, StandsForEntries}
use Rattle.cb_file_kinds.specs.declared.output.Output.{Output}
use Rattle.cb_file_kinds.specs.Kinds.{IsWant}

-- whether events say that a line was skipped
abbrev pub skips : List Event → Bool
skips (Skipped line why ∷ events) = true
skips events = false

-- these lines of a log were taken, from a topology on: what results from them is counted, and the session stands for them
pub record HasSummedUp (opening : Topology) (lines : List NumberedLine) (session : State) (summary : Summary) : Type 0 where
  pub entries : List LogEntry
  pub come : ComeTo lines entries
  pub stands : StandsForEntries session opening entries
  pub events : List Event
  pub give : EntriesGive opening session.mode session.windows.length [] entries events
  pub counted : CountsEvents events summary
  pub records : summary.records ≡ length (records_of entries)

-- both summaries are of what is asked for with the same numbers
pub record KeepsRequest (old new : Summary) : Type 0 where
  pub sites : new.sites ≡ old.sites
  pub start : new.start ≡ old.start

-- but for the sizes of the network, nothing has changed
pub record KeepsCounts (old new : Summary) : Type 0 where
  pub asked : KeepsRequest old new
  pub records : new.records ≡ old.records
  pub counted : (events : List Event) → CountsEvents events old → CountsEvents events new

-- the text is that of the summary of the log that is made up
abbrev pub GivesSummary : ℕ → ℕ → Topology → List ℕ → Type 0
GivesSummary sites start t text = (summary : Summary) × SumsUp sites start t summary × (text ≡ grow_text summary)

-- a fault is reported beside an output without bytes, or alone where it is out of memory
abbrev pub AnswersFault : Fault → Result Output Fault → Type 0
AnswersFault fault (Ok output) = (bytes_of_text output.text ≡ []) × (output.fault ≡ Some fault) × (¬ IsWant fault)
AnswersFault fault (Err other) = (other ≡ fault) × IsWant fault

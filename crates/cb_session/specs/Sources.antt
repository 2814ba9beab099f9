-- What is reported of a source, whatever other sources say.
use Rattle.std.specs.Prelude.{◌≡◌, ℕ, List}
use Rattle.cb_network.specs.Topology.{Topology}
use Rattle.cb_log.specs.declared.event.Event.{Event}
use Rattle.cb_log.specs.Basis.{Mode}
use Rattle.cb_log.specs.Entries.{LogEntry, records_of}
use Rattle.cb_log.specs.Events.{EntryGives, EndGives}
use Rattle.cb_log.specs.Sources.{diagnoses_of}
use Rattle.cb_alarm.specs.Lines.{NumberedLine, ComesTo, ComeTo}
use Rattle.cb_alarm.specs.Quiet.{IsQuieted, AreQuieted}

-- what the lines come to as the source alone would have made them
pub record QuietLog (source : List ℕ) (lines : List NumberedLine) : Type 0 where
  pub quiet : List NumberedLine
  pub are_quieted : AreQuieted source lines quiet
  pub entries : List LogEntry
  pub come : ComeTo quiet entries

-- what results from the line as the source alone would have made it, in the log as it alone would have made it
pub record QuietLineGives (opening : Topology) (mode : Mode) (w : ℕ) (source : List ℕ) (before : List NumberedLine) (line : NumberedLine)
    (events : List Event) : Type 0 where
  pub log : QuietLog source before
  pub quiet : NumberedLine
  pub is_quieted : IsQuieted source line quiet
  pub entry : LogEntry
  pub comes : ComesTo quiet entry
  pub gives : EntryGives opening mode w (records_of log.entries) entry events

-- of each source, the diagnoses are those of any events that result if the other sources say nothing
abbrev pub StandsAlone : Topology → Mode → ℕ → List NumberedLine → NumberedLine → List Event → Type 0
StandsAlone opening mode w before line events = (source : List ℕ) (alone : List Event) → QuietLineGives opening mode w source before line alone
    → diagnoses_of source events ≡ diagnoses_of source alone

-- what results from the end of the log as the source alone would have made it
pub record QuietEndGives (opening : Topology) (mode : Mode) (w : ℕ) (source : List ℕ) (lines : List NumberedLine) (events : List Event) : Type 0 where
  pub log : QuietLog source lines
  pub gives : EndGives opening mode w (records_of log.entries) events

-- of each source, the diagnoses at the end are those of any events that result if the other sources say nothing
abbrev pub EndsAlone : Topology → Mode → ℕ → List NumberedLine → List Event → Type 0
EndsAlone opening mode w lines events = (source : List ℕ) (alone : List Event) → QuietEndGives opening mode w source lines alone
    → diagnoses_of source events ≡ diagnoses_of source alone

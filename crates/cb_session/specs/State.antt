-- What a session keeps of a log that it takes line by line, and what it stands for.
use Rattle.std.specs.Prelude.{◌≡◌, ◌↔◌, ◌≤◌, ℕ, List, length, Option, Some, IsSome, IfSome}
use Rattle.cb_network.specs.Topology.{Topology}
use Rattle.cb_log.specs.Basis.{Mode, wanted, fixed, Basis}
use Rattle.cb_log.specs.Entries.{LogEntry, records_of}
use Rattle.cb_log.specs.Events.{IsNetwork, HasBook}
use Rattle.cb_log.specs.Kept.{Kept, StandsForRecords}
use Rattle.cb_alarm.specs.Lines.{NumberedLine, text, long, ComeTo, log_line_limit}
use Rattle.cb_cache.specs.Cached.{Cached}
use Rattle.cb_topo.specs.Numbered.{topology_of}
use Rattle.cb_session.specs.declared.line.LogLine.{LogLine}
use Rattle.cb_session.specs.declared.line.LogLine.TheVariants.{Text, Long}
use Rattle.cb_session.specs.InUse.{InUse}

-- the mode, the topology with its numbers and rows, what is kept of the windows, and what is in use, if there is a codebook
pub record State : Type 0 where
  pub mode : Mode
  pub cache : Cached
  pub windows : Kept
  pub book : Option InUse

-- the topology as it is
abbrev pub network_of : State → Topology
network_of s = topology_of s.cache.graph

-- this is in use for the topology
abbrev pub IsBookInUse : Topology → Mode → InUse → Type 0
IsBookInUse network mode book = (basis : Basis network mode) × (basis.kept ≡ book.kept) × (basis.used ≡ book.used)

-- for a wish a codebook is kept exactly where one is in use; a fixed one is kept always
abbrev pub KeepsBook : Topology → Mode → ℕ → State → List LogEntry → Type 0
KeepsBook opening (wanted wish) w s entries =
    (IsSome s.book ↔ HasBook opening w (records_of entries)) × IfSome s.book (IsBookInUse (network_of s) (wanted wish))
KeepsBook opening (fixed given met) w s entries = s.book ≡ Some (record { kept = given; used = met })

-- it stands for an opening topology and what the lines come to
pub record StandsForEntries (s : State) (opening : Topology) (entries : List LogEntry) : Type 0 where
  pub network : IsNetwork opening s.mode (records_of entries) (network_of s)
  pub windows : StandsForRecords s.windows (records_of entries)
  pub book : KeepsBook opening s.mode s.windows.length s entries

-- it stands for an opening topology and these lines
pub record StandsForLines (s : State) (opening : Topology) (lines : List NumberedLine) : Type 0 where
  pub entries : List LogEntry
  pub come : ComeTo lines entries
  pub stands : StandsForEntries s opening entries

-- the line of the log
abbrev pub log_line_of : LogLine → NumberedLine
log_line_of (Text number bytes) = text number bytes.now
log_line_of (Long number) = long number

-- a text has not too many bytes
abbrev pub IsFitting : LogLine → Type 0
IsFitting (Text number bytes) = length bytes.now ≤ log_line_limit
IsFitting (Long number) = Unit {0}

-- How many steps are counted of a log that is followed, or summed up. `now` is reported before it is read, `after` at last.
use Rattle.std.specs.Prelude.{◌≡◌, ◌+◌, ◌≤◌, ℕ, List, [], take, Bool, false, IfSome, Result, Ok}
use Rattle.cb_io.specs.declared.line_reader.Line.{Line as Given}
use Rattle.cb_io.specs.declared.line_reader.Line.TheVariants as given
use Rattle.cb_io.specs.LineReading.{Reading}
use Rattle.cb_io.specs.Outside.{FilesReport, left_of}
use Rattle.cb_model.specs.declared.wish.Wish.{Wish}
use Rattle.cb_network.specs.Regular.{IsRegular}
use Rattle.cb_network.specs.Topology.{Topology}
use Rattle.cb_log.specs.Basis.{wanted}
use Rattle.cb_log.specs.Entries.{LogEntry}
use Rattle.cb_alarm.specs.Lines.{NumberedLine, log_lines, ComesTo}
use Rattle.cb_report.specs.declared.summary.Summary.{Summary}
use Rattle.cb_outcome.specs.LogJobs.{Watch}
use Rattle.cb_outcome.specs.Reading.{LeavesRest}
use Rattle.cb_outcome.specs.Costs.{CountsLines, lines_taken}
use Rattle.cb_session.specs.Counted.{IsEntryCost}
use Rattle.cb_session.specs.State.{State}
use Rattle.cb_log_commands.specs.declared.stop.LogStop.{LogStop}
use Rattle.cb_log_commands.specs.Summing.{HasSummedUp}
use Rattle.cb_log_commands.specs.Telling.{IsLogAt}

-- ---- a line

-- no more steps are counted than the edit costs that the line comes to
abbrev pub CountsLine : Topology → NumberedLine → ℕ → ℕ → Type 0
CountsLine network line old new = (entry : LogEntry) → ComesTo line entry → (cost : ℕ) → IsEntryCost network entry cost → new ≤ old + cost

-- of the line that a reader gave, whose bytes are these where it isn't too long; none where it gave none
abbrev pub CountsGiven : Topology → Given → List ℕ → ℕ → ℕ → Type 0
CountsGiven network (given.Text number) bytes old new = CountsLine network (NumberedLine.text number bytes) old new
CountsGiven network (given.Long number) bytes old new = CountsLine network (NumberedLine.long number) old new
CountsGiven network given.End bytes old new = new ≡ old

-- ---- a log that is followed by codebooks for a wish

-- these bytes come, and since the start no more steps were counted than the lines cost that were given
pub record IsCountedAt (watch : Watch) (log : List ℕ) (reader : Reading) (bytes : List ℕ) (session : State) (start steps : ℕ) : Type 0 where
  pub regular : IsRegular watch.from.model
  pub wish : Wish
  pub mode : watch.mode ≡ wanted wish
  pub reported : List ℕ
  pub is_at : IsLogAt watch log reader.number reader.given bytes session reported
  pub counts : CountsLines watch.from (log_lines (take reader.given log)) start steps

-- then, once the next piece is asked for, no more were counted than the lines cost that were taken
abbrev pub PieceTakes : Reading → FilesReport → State → ℕ → ℕ → List ℕ → Type 0
PieceTakes reader after session old new bytes = (watch : Watch) (log : List ℕ) (start : ℕ) → IsCountedAt watch log reader bytes session start old
    → (taken : LeavesRest log (left_of after reader.name)) → CountsLines watch.from (lines_taken taken.0 taken.1) start new

-- and where it came, and wasn't the last, than the lines cost that were given
abbrev pub PieceCounts : Reading → Reading → State → ℕ → ℕ → List ℕ → Type 0
PieceCounts reader reader' session old new bytes = (watch : Watch) (log : List ℕ) (start : ℕ) → IsCountedAt watch log reader bytes session start old
    → reader'.ended ≡ false → CountsLines watch.from (log_lines (take reader'.given log)) start new

-- since the start no more steps were counted than the lines cost that were given
pub record HasCounted (watch : Watch) (now : FilesReport) (reader : Reading) (start steps : ℕ) : Type 0 where
  pub wish : Wish
  pub mode : watch.mode ≡ wanted wish
  pub counts : IfSome (left_of now reader.name) (λ log. CountsLines watch.from (log_lines (take reader.given log)) start steps)

-- the steps of a line that was taken, where the log goes on
abbrev pub CountsOn : Watch → FilesReport → Reading → ℕ → ℕ → Result Bool LogStop → Type 0
CountsOn watch now reader start steps (Ok false) = HasCounted watch now reader start steps
CountsOn watch now reader start steps result = Unit {0}

-- no more steps were counted than the lines cost that were taken of the name
abbrev pub CountsTaken : Topology → List ℕ → FilesReport → FilesReport → ℕ → ℕ → Type 0
CountsTaken t name now after start steps =
    IfSome (left_of now name) (λ log. (taken : LeavesRest log (left_of after name)) → CountsLines t (lines_taken taken.0 taken.1) start steps)

-- ---- a log that is summed up

-- no more steps are counted than these lines cost, where they are taken from the beginning by codebooks for a wish
abbrev pub CountsSummed : State → Summary → List NumberedLine → ℕ → ℕ → Type 0
CountsSummed session summary lines old new = (opening : Topology) (wish : Wish) → IsRegular opening.model → session.mode ≡ wanted wish
    → HasSummedUp opening [] session summary → CountsLines opening lines old new

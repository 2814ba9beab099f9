-- What following a log leaves. `old` is reported before the run, `now` and `out` before the log is read, `new` and `out'` after it; `left` is what
-- is left of the log then.
use Rattle.std.specs.Prelude.{◌≡◌, ◌⊎◌, ℕ, ◌+◌, ◌<◌, ◌≤◌, ◌++◌, min, List, [], ◌∷◌, take, length, Option, None, Some, IsSome, IfSome, map}
use Rattle.cb_io.specs.Outside.{FilesReport, SinkReport, left_of, ReadsEach, ReadFailed, NoCountFalls, WritesAll, WritesPrefix, WriteFailed}
use Rattle.cb_report.specs.declared.fault.Fault.{Fault}
use Rattle.cb_report.specs.declared.fault.Fault.TheVariants as faults
use Rattle.cb_outcome.specs.Judged.{Known, nothing, PassFrom}
use Rattle.cb_outcome.specs.Contents.{files_from}
use Rattle.cb_outcome.specs.Reading.{WhereReported}
use Rattle.cb_outcome.specs.Clauses.{ahead_limit}
use Rattle.cb_outcome.specs.LogJobs.{Watch, WholeTells, PrefixTells, log_limit}
use Rattle.cb_outcome.specs.Command.{Command, reads_of, IsWatch}
use Rattle.cb_file_kinds.specs.Kinds.{ReadsOnly}

-- the output of the first bytes of a log is due once that many were taken
abbrev pub IsDueUpto : Watch → List ℕ → ℕ → List ℕ → Type 0
IsDueUpto watch log taken due = PrefixTells watch (take (min taken log_limit) log) due

-- at its end, what the whole log tells, where it isn't too long
pub record IsDueOfAll (watch : Watch) (log due : List ℕ) : Type 0 where
  pub short : length log ≤ log_limit
  pub tells : WholeTells watch log due

-- the log was read whole, and all that it tells was written
pub record IsReportedWhole (watch : Watch) (log : List ℕ) (left : Option (List ℕ)) (out out' : SinkReport) : Type 0 where
  pub due : List ℕ
  pub is_due : IsDueOfAll watch log due
  pub none : left ≡ Some []
  pub written : WritesAll out out' due

-- the log is too long, and what its lines before the first byte too many tell was written
pub record IsReportedToLimit (watch : Watch) (log : List ℕ) (out out' : SinkReport) : Type 0 where
  pub long : log_limit < length log
  pub due : List ℕ
  pub tells : PrefixTells watch (take log_limit log) due
  pub written : WritesAll out out' due

-- what is due once these bytes of the log were taken was written
pub record IsReportedAsTaken (watch : Watch) (log : List ℕ) (left : Option (List ℕ)) (out out' : SinkReport) : Type 0 where
  pub prefix : List ℕ
  pub rest : List ℕ
  pub log_is : log ≡ prefix ++ rest
  pub left_is : left ≡ Some rest
  pub due : List ℕ
  pub is_due : IsDueUpto watch log (length prefix) due
  pub written : WritesAll out out' due

-- the point is no farther than the bytes that were taken
abbrev pub IsWithinTaken : List ℕ → Option (List ℕ) → ℕ → Type 0
IsWithinTaken log left upto = (prefix rest : List ℕ) → log ≡ prefix ++ rest → left ≡ Some rest → upto ≤ length prefix

-- not many more bytes were taken than up to the point
abbrev pub IsNearTaken : List ℕ → Option (List ℕ) → ℕ → Type 0
IsNearTaken log left upto = (prefix rest : List ℕ) → log ≡ prefix ++ rest → left ≡ Some rest → length prefix ≤ upto + ahead_limit

-- what is due at some point of what was taken was written
pub record IsReportedSoFar (watch : Watch) (log : List ℕ) (left : Option (List ℕ)) (out out' : SinkReport) : Type 0 where
  pub upto : ℕ
  pub within : IsWithinTaken log left upto
  pub due : List ℕ
  pub is_due : IsDueUpto watch log upto due
  pub written : WritesAll out out' due

-- a prefix of what is due at some point near what was taken, or at the end of a log that was read to it, was written
abbrev pub IsReportedInPart : Watch → List ℕ → Option (List ℕ) → SinkReport → SinkReport → Type 0
IsReportedInPart watch log left out out' = (due : List ℕ)
    × (((upto : ℕ) × IsNearTaken log left upto × IsDueUpto watch log upto due) ⊎ ((left ≡ Some []) × IsDueOfAll watch log due))
    × WritesPrefix out out' due

-- where more is due at some point of the log than was written, not many more bytes than those were taken
abbrev pub IsNotFar : Watch → List ℕ → Option (List ℕ) → SinkReport → SinkReport → Type 0
IsNotFar watch log left out out' = (upto : ℕ) (prefix rest due written : List ℕ) → log ≡ prefix ++ rest → left ≡ Some rest
    → IsDueUpto watch log upto due → WritesAll out out' written → length written < length due → length prefix ≤ upto + ahead_limit

-- a write failed: a part of what is due was written, and the log wasn't read far ahead of it, where the output is reported
pub record IsWatchCutShort (watch : Watch) (log : List ℕ) (left : Option (List ℕ)) (out out' : SinkReport) : Type 0 where
  pub part : IsReportedInPart watch log left out out'
  pub near : IsSome out.taken → IsNotFar watch log left out out'

-- what was written of a log, by the fault that ended it, if there is one
abbrev pub TellsLog : Watch → List ℕ → Option (List ℕ) → SinkReport → SinkReport → Option Fault → Type 0
TellsLog watch log left out out' None = IsReportedWhole watch log left out out'
TellsLog watch log left out out' (Some (faults.LimitBytes name)) = IsReportedToLimit watch log out out'
TellsLog watch log left out out' (Some (faults.ReadFault name)) = IsReportedAsTaken watch log left out out'
TellsLog watch log left out out' (Some faults.WriteFault) = IsWatchCutShort watch log left out out'
TellsLog watch log left out out' (Some fault) = IsReportedSoFar watch log left out out'

-- what has gone wrong, by that fault: the log is too long, a read of it failed, a write failed, or memory ran out
abbrev pub GoesWrong : List ℕ → FilesReport → FilesReport → SinkReport → SinkReport → Option Fault → Type 0
GoesWrong name now new out out' None = Unit {0}
GoesWrong name now new out out' (Some (faults.LimitBytes other)) = other ≡ name
GoesWrong name now new out out' (Some (faults.ReadFault other)) = (other ≡ name) × ReadFailed now new name
GoesWrong name now new out out' (Some faults.WriteFault) = WriteFailed out out'
GoesWrong name now new out out' (Some faults.Memory) = Unit {0}
GoesWrong name now new out out' (Some fault) = ⊥

-- a log was followed to this end
pub record EndsLog (watch : Watch) (name : List ℕ) (now new : FilesReport) (out out' : SinkReport) (end : Option Fault) : Type 0 where
  pub only : ReadsOnly name now new
  pub wrong : GoesWrong name now new out out' end
  pub tells : IfSome (left_of now name) (λ log. TellsLog watch log (left_of new name) out out' end)

-- the judged files have passed, and the log was followed to this end
pub record FollowsLog (c : Command) (old new : FilesReport) (out out' : SinkReport) (end : Option Fault) : Type 0 where
  pub range : c.range
  pub known : Known
  pub passed : WhereReported old (λ left. PassFrom nothing (files_from left (reads_of c)) known)
  pub watch : Watch
  pub watches : IsWatch c known watch
  pub name : List ℕ
  pub log : (reads_of c).logs ≡ name ∷ []
  pub now : FilesReport
  pub read : ReadsEach old now (map (λ file. file.1) c.files)
  pub counts : NoCountFalls old now
  pub ends : EndsLog watch name now new out out' end

-- The clauses of a run of a command. `s` is all that is seen of it.
use Rattle.std.specs.Prelude.{◌≡◌, ◌≢◌, ◌⊎◌, ℕ, ◌+◌, ◌<◌, ◌≤◌, ◌++◌, List, [], ◌∷◌, take, length, map, slice_get, Option, Some, IsSome}
use Rattle.std.specs.List.{Contains}
use Rattle.cb_io.specs.Outside.{contents, left_of, ReadFailed, WritesAll, WritesPrefix, WriteFailed}
use Rattle.cb_report.specs.declared.fault.Fault.{Fault}
use Rattle.cb_report.specs.declared.fault.Fault.TheVariants as faults
use Rattle.cb_report.specs.declared.status.Status.{Status}
use Rattle.cb_report.specs.declared.status.Status.TheVariants as statuses
use Rattle.cb_report.specs.Status.{OnAnswer}
use Rattle.cb_report.specs.Faults.{ending}
use Rattle.cb_outcome.specs.Outcome.{Outcome}
use Rattle.cb_outcome.specs.Contents.{Left, Pass, files_from, files_before}
use Rattle.cb_outcome.specs.Answer.{IsOutcome, IsDue}
use Rattle.cb_outcome.specs.Point.{Point}
use Rattle.cb_outcome.specs.Reading.{WhereReported, ReadsTo}
use Rattle.cb_outcome.specs.Seen.{Seen, SaysFault}
use Rattle.cb_outcome.specs.Command.{Command, reads_of, file_words}

-- ---- what comes out

-- status, output and line are those of the outcome, and so are the files that were read
pub record Answers (c : Command) (status : Status) (s : Seen) (left : Left) : Type 0 where
  pub outcome : Outcome
  pub is : IsOutcome c left outcome
  pub status_is : status ≡ ending outcome.fault
  pub output : WritesAll s.out s.out_after outcome.out
  pub line : SaysFault outcome.fault s.err s.err_after
  pub read : ReadsTo outcome.whole (file_words c) s.files s.files_after

-- at each status but 8, 9 and 10 the run answers the outcome
abbrev pub AnswersOutcome : Command → Status → Seen → Type 0
AnswersOutcome c status s = OnAnswer status (WhereReported s.files (Answers c status s))

-- what was written is a prefix of what was due at some point of the run
abbrev pub WritesDue : Command → Seen → Type 0
WritesDue c s = WhereReported s.files (λ left. (point : Point) × (due : List ℕ) × IsDue c left point due × WritesPrefix s.out s.out_after due)

-- all judged files were read whole
abbrev pub ReadsJudged : Command → Seen → Type 0
ReadsJudged c s = (whole : ℕ) × (length c.files ≤ whole) × ReadsTo whole (file_words c) s.files s.files_after

-- they have passed
abbrev pub HaveAllPassed : Command → Left → Type 0
HaveAllPassed c left = Pass (files_from left (reads_of c))

-- there is a log, and the run has come to it: all judged files were read whole and have passed
pub record HasComeToLog (c : Command) (s : Seen) : Type 0 where
  pub follows : (reads_of c).logs ≢ []
  pub read : ReadsJudged c s
  pub passed : WhereReported s.files (HaveAllPassed c)

-- nothing was written, unless the run has come to a log
abbrev pub IsQuietBeforeLog : Command → Seen → Type 0
IsQuietBeforeLog c s = WritesAll s.out s.out_after [] ⊎ HasComeToLog c s

-- At 0 the whole output is written, at 6 an output beside the fault, at 9 a prefix. Where a read failed, something is too long or
-- memory ran out, nothing was written before the log, and where the words or a judged file are to blame nothing at all.
abbrev pub KeepsQuiet : Command → Status → Seen → Type 0
KeepsQuiet c statuses.Done s = Unit {0}
KeepsQuiet c statuses.Distance s = Unit {0}
KeepsQuiet c statuses.WriteFault s = Unit {0}
KeepsQuiet c statuses.Limit s = IsQuietBeforeLog c s
KeepsQuiet c statuses.ReadFault s = IsQuietBeforeLog c s
KeepsQuiet c statuses.Memory s = IsQuietBeforeLog c s
KeepsQuiet c status s = WritesAll s.out s.out_after []

-- the name is one of the words that name files
abbrev pub IsFileWord : Command → List ℕ → Type 0
IsFileWord c name = Contains (file_words c) name

-- a file that the fault names is a file word
abbrev pub NamesFileWord : Command → Option Fault → Type 0
NamesFileWord c (Some (faults.LimitBytes name)) = IsFileWord c name
NamesFileWord c (Some (faults.LimitLine name line)) = IsFileWord c name
NamesFileWord c (Some (faults.ReadFault name)) = IsFileWord c name
NamesFileWord c fault = Unit {0}

-- the error sink was given the line of a fault of this status, which names no file but a file word; at 0 it was given nothing
pub record SaysStatus (c : Command) (status : Status) (s : Seen) : Type 0 where
  pub fault : Option Fault
  pub status_is : status ≡ ending fault
  pub says : SaysFault fault s.err s.err_after
  pub names : NamesFileWord c fault

-- ---- what was read

-- files were read in the order of the words, each whole before the next, and no other
abbrev pub ReadsInOrder : Command → Seen → Type 0
ReadsInOrder c s = (whole : ℕ) × ReadsTo whole (file_words c) s.files s.files_after

-- ---- the cause of 8 and 9

-- the judged files before a position have passed
abbrev pub HavePassed : Command → ℕ → Left → Type 0
HavePassed c place left = Pass (files_before place left (reads_of c))

-- `taken` bytes of this name were taken
pub record HasTaken (name : List ℕ) (taken : ℕ) (s : Seen) (left : Left) : Type 0 where
  pub within : taken ≤ length (contents left [] name)
  pub rest : List ℕ
  pub before : left_of s.files name ≡ Some (take taken (contents left [] name) ++ rest)
  pub after : left_of s.files_after name ≡ Some rest

-- all that was due was written, once the bytes that were taken of the log were taken
pub record WritesAllDue (c : Command) (name : List ℕ) (s : Seen) (left : Left) : Type 0 where
  pub taken : ℕ
  pub has_taken : HasTaken name taken s left
  pub due : List ℕ
  pub is_due : IsDue c left (Point.upto taken) due
  pub written : WritesAll s.out s.out_after due

-- at a judged file nothing was written, and at the log all that was due
pub record WritesAt (c : Command) (place : ℕ) (name : List ℕ) (s : Seen) : Type 0 where
  pub judged : place < length c.files → WritesAll s.out s.out_after []
  pub log : length c.files ≤ place → WhereReported s.files (WritesAllDue c name s)

-- A read of the file word at a position failed, the line names it, those before it were read whole and have passed, and what was due was
-- written.
pub record BlamesRead (c : Command) (s : Seen) : Type 0 where
  pub place : ℕ
  pub name : List ℕ
  pub is : slice_get (file_words c) place ≡ Some name
  pub failed : ReadFailed s.files s.files_after name
  pub read : ReadsTo place (file_words c) s.files s.files_after
  pub says : SaysFault (Some (faults.ReadFault name)) s.err s.err_after
  pub passed : WhereReported s.files (HavePassed c place)
  pub written : WritesAt c place name s

-- the run is past its start
abbrev pub IsPastStart : Point → Type 0
IsPastStart Point.start = ⊥
IsPastStart point = Unit {0}

-- the log is read at most this far after a line whose events aren't written yet
abbrev pub ahead_limit : ℕ
ahead_limit = 65536

-- the log was read at most that far past the point, or to its end if that is the point, where no judged file has its name
abbrev pub IsNearPoint : Command → Point → Seen → Left → Type 0
IsNearPoint c Point.start s left = Unit {0}
IsNearPoint c (Point.upto upto) s left = (name : List ℕ) (taken : ℕ) → (reads_of c).logs ≡ name ∷ []
    → (¬ Contains (map (λ file. file.1) c.files) name) → HasTaken name taken s left → taken ≤ upto + ahead_limit
IsNearPoint c Point.end s left = (name : List ℕ) (taken : ℕ) → (reads_of c).logs ≡ name ∷ []
    → (¬ Contains (map (λ file. file.1) c.files) name) → HasTaken name taken s left → taken ≡ length (contents left [] name)

-- what was written is a prefix of what was due at a point past the start, and the log wasn't read far past that point
abbrev pub WritesPastStart : Command → Seen → Left → Type 0
WritesPastStart c s left = (point : Point) × IsPastStart point × IsNearPoint c point s left
    × ((due : List ℕ) × IsDue c left point due × WritesPrefix s.out s.out_after due)

-- if what is due once a number of bytes of the log was taken is longer than what was written, not many more bytes than those were taken
abbrev pub IsNotFarAhead : Command → List ℕ → Seen → Left → Type 0
IsNotFarAhead c name s left = (upto taken : ℕ) (due written : List ℕ) → HasTaken name taken s left
    → IsDue c left (Point.upto upto) due → WritesAll s.out s.out_after written → length written < length due → taken ≤ upto + ahead_limit

-- the log isn't read far ahead, where no judged file has its name and the output is reported
abbrev pub ReadsNotFarAhead : Command → Seen → Left → Type 0
ReadsNotFarAhead c s left = (name : List ℕ) → (reads_of c).logs ≡ name ∷ []
    → (¬ Contains (map (λ file. file.1) c.files) name) → IsSome s.out.taken → IsNotFarAhead c name s left

-- a write of what was due failed, once all judged files were read and have passed; and no log was read far ahead of it
pub record BlamesWrite (c : Command) (s : Seen) : Type 0 where
  pub failed : WriteFailed s.out s.out_after
  pub says : SaysFault (Some faults.WriteFault) s.err s.err_after
  pub read : ReadsJudged c s
  pub passed : WhereReported s.files (HaveAllPassed c)
  pub due : WhereReported s.files (WritesPastStart c s)
  pub ahead : WhereReported s.files (ReadsNotFarAhead c s)

-- the log was come to, and all that was due at a point of it was written, which is no farther than what was taken of it
pub record StopsInLog (c : Command) (s : Seen) (left : Left) : Type 0 where
  pub name : List ℕ
  pub log : (reads_of c).logs ≡ name ∷ []
  pub taken : ℕ
  pub has_taken : HasTaken name taken s left
  pub upto : ℕ
  pub within : upto ≤ taken
  pub due : List ℕ
  pub is_due : IsDue c left (Point.upto upto) due
  pub written : WritesAll s.out s.out_after due

-- memory ran out: nothing was written, or all that was due at a point of the log
abbrev pub BlamesMemory : Command → Seen → Type 0
BlamesMemory c s = WritesAll s.out s.out_after [] ⊎ WhereReported s.files (StopsInLog c s)

-- at 8 a read failed, at 9 a write, and at 10 memory ran out
abbrev pub Blames : Command → Status → Seen → Type 0
Blames c statuses.ReadFault s = BlamesRead c s
Blames c statuses.WriteFault s = BlamesWrite c s
Blames c statuses.Memory s = BlamesMemory c s
Blames c status s = Unit {0}

-- ---- steps

-- the steps that were counted are within the bound of the command
abbrev pub BoundsSteps : Command → Seen → ℕ → ℕ → Type 0
BoundsSteps c s old new = c.counts s.files s.files_after old new

-- ---- completeness

-- no read of a file word failed
abbrev pub NoReadFails : Command → Seen → Type 0
NoReadFails c s = (name : List ℕ) → IsFileWord c name → ¬ ReadFailed s.files s.files_after name

-- where no read of a file word and no write of the output fails, the run answers the outcome, unless memory runs out
abbrev pub IsComplete : Command → Status → Seen → Type 0
IsComplete c status s = NoReadFails c s → (¬ WriteFailed s.out s.out_after)
    → (status ≡ statuses.Memory) ⊎ WhereReported s.files (Answers c status s)

-- What a command is.
use Rattle.std.specs.Prelude.{◌≡◌, ℕ, ◌≤◌, List, [], ◌∷◌}
use Rattle.cb_io.specs.Outside.{FilesReport}
use Rattle.cb_model.specs.declared.wish.Wish.{Wish}
use Rattle.cb_model.specs.declared.wish.Wish.TheVariants.{Plain, Cap}
use Rattle.cb_outcome.specs.Roles.{Role}
use Rattle.cb_report.specs.declared.fault.Fault.{Fault}
use Rattle.cb_report.specs.declared.status.Status.{Status}
use Rattle.cb_report.specs.declared.status.Status.TheVariants as statuses
use Rattle.cb_outcome.specs.Outcome.{refused}
use Rattle.cb_outcome.specs.Judged.{Known, Job}
use Rattle.cb_outcome.specs.Contents.{Left, Reads, names_of, log_from}
use Rattle.cb_outcome.specs.LogJobs.{Watch, LogTells}
use Rattle.cb_outcome.specs.Prints.{PrintsEvents}
use Rattle.cb_outcome.specs.Seen.{Seen}

-- a number from the least to the most
abbrev pub IsWithin : ℕ → ℕ → ℕ → Type 0
IsWithin least most n = (least ≤ n) × (n ≤ most)

-- a wish whose number is from the least to the most
abbrev pub IsWishWithin : ℕ → ℕ → Wish → Type 0
IsWishWithin least most (Plain d) = IsWithin least most d
IsWishWithin least most (Cap cap) = IsWithin least most cap

-- A job whose output is made before it is written: what it gives, which faults it may end with once all files have passed, and what is seen of
-- a run that ends with a status.
pub record Making : Type 1 where
  pub gives : Job
  pub faults : Fault → Type 0
  pub finds : Known → Status → Seen → Type 0

-- nothing is found in an output, which a run writes at 0 alone
abbrev pub FindsNothing : Known → Status → Seen → Type 0
FindsNothing known statuses.Done s = Unit {0}
FindsNothing known status s = ⊥

-- What is done once all judged files have passed: an output is made, or the log of a name is followed, by what is known from the files; or
-- nothing is done: the words are refused with this fault.
pub data Task : Type 1 where
  makes : Making → Task
  follows : List ℕ → (Known → Watch → Type 0) → Task
  refuses : Fault → Task

-- A command: the files that it judges, in the order in which they are read, its task, the ranges of its numbers, and how many steps it counts, by
-- what files tell before the run and after it.
pub record Command : Type 1 where
  pub files : List (Role × List ℕ)
  pub task : Task
  pub range : Type 0
  pub counts : FilesReport → FilesReport → ℕ → ℕ → Type 0

-- something is done
abbrev pub IsDoing : Task → Type 0
IsDoing (makes making) = Unit {0}
IsDoing (follows name watches) = Unit {0}
IsDoing (refuses fault) = ⊥

-- this is refused
abbrev pub IsTaskRefusal : Task → Fault → Type 0
IsTaskRefusal (makes making) fault = ⊥
IsTaskRefusal (follows name watches) fault = ⊥
IsTaskRefusal (refuses other) fault = other ≡ fault

-- the names of the log
abbrev pub logs_in : Task → List (List ℕ)
logs_in (makes making) = []
logs_in (follows name watches) = name ∷ []
logs_in (refuses fault) = []

-- all that it reads
abbrev pub reads_of : Command → Reads
reads_of c = record { judged = c.files; logs = logs_in c.task }

-- the words that name files, in the order in which they are read
abbrev pub file_words : Command → List (List ℕ)
file_words c = names_of (reads_of c)

-- how the log is followed, after what is known
abbrev pub WatchesLog : Task → Known → Watch → Type 0
WatchesLog (makes making) known watch = ⊥
WatchesLog (follows name watches) known watch = watches known watch
WatchesLog (refuses fault) known watch = ⊥

abbrev pub IsWatch : Command → Known → Watch → Type 0
IsWatch c known watch = WatchesLog c.task known watch

-- what results from a task, where a log gives these bytes
abbrev pub TaskGives : (List ℕ → List ℕ) → Task → Job
TaskGives log (makes making) known whole outcome = making.gives known whole outcome
TaskGives log (follows name watches) known whole outcome =
    (watch : Watch) × watches known watch × LogTells watch name (log name) whole outcome
TaskGives log (refuses fault) known whole outcome = outcome ≡ refused fault whole

-- what results from a command, by the bytes left of each name, after what is known from its judged files
abbrev pub JobGives : Left → Command → Job
JobGives left c known whole outcome = TaskGives (λ name. log_from left (reads_of c) name) c.task known whole outcome

-- at 0, the events of a log
abbrev pub FindsLogEvents : List ℕ → (Watch → Type 0) → Status → Seen → Type 0
FindsLogEvents log Watches statuses.Done s = (watch : Watch) × Watches watch × PrintsEvents watch log s.out s.out_after
FindsLogEvents log Watches status s = ⊥

-- what is found at the end of a task, after what is known
abbrev pub TaskFinds : (List ℕ → List ℕ) → Task → Known → Status → Seen → Type 0
TaskFinds log (makes making) known status s = making.finds known status s
TaskFinds log (follows name watches) known status s = FindsLogEvents (log name) (λ watch. watches known watch) status s
TaskFinds log (refuses fault) known status s = ⊥

-- which faults it may end with once all files have passed, and the log, if there is one, isn't too long
abbrev pub TaskFaults : Task → Fault → Type 0
TaskFaults (makes making) fault = making.faults fault
TaskFaults (follows name watches) fault = ⊥
TaskFaults (refuses refusal) fault = fault ≡ refusal

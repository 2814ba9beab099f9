-- What each command keeps, so that runs can be spoken of without going through the commands.
use Rattle.std.proofs.Common.{◌≡◌, ℕ, List, [], sym, subst}
use Rattle.std.specs.Prelude.{Option, None, Some}
use Rattle.cb_network.specs.Regular.{IsRegular}
use Rattle.cb_report.specs.declared.fault.Fault.{Fault}
use Rattle.cb_report.specs.declared.fault.Fault.TheVariants as faults
use Rattle.cb_report.specs.declared.status.Status.{Status}
use Rattle.cb_report.specs.declared.status.Status.TheVariants as statuses
use Rattle.cb_report.specs.Faults.{status_of, ending}
use Rattle.cb_outcome.specs.Outcome.{Outcome}
use Rattle.cb_outcome.specs.Judged.{Known, nothing, PassFrom}
use Rattle.cb_outcome.specs.Contents.{Left, Reads, files_from}
use Rattle.cb_outcome.specs.Finds.{OnOutput}
use Rattle.cb_outcome.specs.Seen.{Seen, SaysFault}
use Rattle.cb_io.specs.Outside.{WritesAll}
use Rattle.cb_outcome.specs.LogJobs.{Watch}
use Rattle.cb_outcome.specs.Command.{Command, Making, FindsNothing, Task, makes, follows, refuses, reads_of}
use Rattle.cb_outcome.proofs.Apart.{AllApart}
use Rattle.cb_outcome.proofs.Once.{IsSound}

-- beside a fault nothing is written, but at 6
abbrev pub IsQuietAt : Status → List ℕ → Type 0
IsQuietAt statuses.Distance out = Unit {0}
IsQuietAt status out = out ≡ []

-- the fault names no file
abbrev pub NamesNoFile : Fault → Type 0
NamesNoFile (faults.LimitBytes name) = ⊥
NamesNoFile (faults.LimitLine name line) = ⊥
NamesNoFile (faults.ReadFault name) = ⊥
NamesNoFile fault = Unit {0}

-- the words and the files alone determine such an end
abbrev pub IsOwnStatus : Status → Type 0
IsOwnStatus statuses.Done = ⊥
IsOwnStatus statuses.ReadFault = ⊥
IsOwnStatus statuses.WriteFault = ⊥
IsOwnStatus statuses.Memory = ⊥
IsOwnStatus status = Unit {0}

pub record IsOwnFault (fault : Fault) : Type 0 where
  pub nameless : NamesNoFile fault
  pub status : IsOwnStatus (status_of fault)

-- how a job ends: without a fault, or with one that it may end with
pub data MakingEnds (making : Making) (whole : ℕ) (outcome : Outcome) : Type 0 where
  well : outcome.fault ≡ None → outcome.whole ≡ whole → MakingEnds making whole outcome
  wrong : (fault : Fault) → outcome.fault ≡ Some fault → making.faults fault → IsQuietAt (status_of fault) outcome.out
      → MakingEnds making whole outcome

-- what is found at the end of a job whose output was written, and whose fault was reported
abbrev pub IsShown : (Known → Status → Seen → Type 0) → Known → Seen → Outcome → Type 0
IsShown finds known s a = WritesAll s.out s.out_after a.out → SaysFault a.fault s.err s.err_after → OnOutput (ending a.fault) (finds known (ending a.fault) s)

-- a job gives one outcome, ends so, and what is seen of it is what is to be found
pub record MakesWell (making : Making) : Type 0 where
  pub one : (known : Known) (whole : ℕ) (a b : Outcome) → IsSound known → making.gives known whole a → making.gives known whole b → a ≡ b
  pub ends : (known : Known) (whole : ℕ) (a : Outcome) → making.gives known whole a → MakingEnds making whole a
  pub own : (fault : Fault) → making.faults fault → IsOwnFault fault
  pub finds : (known : Known) (whole : ℕ) (a : Outcome) (s : Seen) → making.gives known whole a → IsShown making.finds known s a

-- a log is followed in one way, from a topology of a checked model, and by codebooks that keep groups apart
pub record FollowsWell (range : Type 0) (reads : Reads) (watches : Known → Watch → Type 0) : Type 0 where
  pub one : (known : Known) (a b : Watch) → watches known a → watches known b → a ≡ b
  pub regular : (known : Known) (watch : Watch) → IsSound known → watches known watch → IsRegular watch.from.model
  pub apart : range → (left : Left) (known : Known) → PassFrom nothing (files_from left reads) known → (watch : Watch) → watches known watch → AllApart watch.from watch.mode

-- a command that is none refuses the words
abbrev pub LawfulFor : Type 0 → Reads → Task → Type 0
LawfulFor range reads (makes making) = MakesWell making
LawfulFor range reads (follows name watches) = FollowsWell range reads watches
LawfulFor range reads (refuses fault) = (fault ≡ faults.Usage) × (reads.judged ≡ [])

abbrev pub IsLawful : Command → Type 0
IsLawful c = LawfulFor c.range (reads_of c) c.task

-- a job that ends without a fault, and of whose output nothing is said
pub shown_done : (known : Known) (s : Seen) (a : Outcome) → a.fault ≡ None → IsShown FindsNothing known s a
shown_done known s a none written says = subst (λ (fault : Option Fault). OnOutput (ending fault) (FindsNothing known (ending fault) s)) (sym none) tt

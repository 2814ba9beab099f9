-- How a task ends whose output is made before it is written.
use Rattle.std.proofs.Common.{◌≡◌, ℕ, List, [], ◌∷◌, refl, sym, ap, subst, Some}
use Rattle.std.specs.Prelude.{None}
use Rattle.cb_report.specs.Faults.{status_of}
use Rattle.cb_report.specs.declared.fault.Fault.{Fault}
use Rattle.cb_report.specs.declared.fault.Fault.TheVariants as faults
use Rattle.cb_outcome.specs.Outcome.{Outcome, refused}
use Rattle.cb_outcome.specs.Judged.{Known}
use Rattle.cb_outcome.specs.Contents.{Reads}
use Rattle.cb_outcome.specs.Command.{Making, Task, makes, follows, refuses, logs_in, TaskGives, TaskFaults, TaskFinds}
use Rattle.cb_outcome.specs.Seen.{Seen}
use Rattle.cb_outcome.proofs.Lawful.{MakingEnds, IsOwnFault, IsQuietAt, IsShown, LawfulFor, well as making_well, wrong as making_wrong}
use Rattle.cb_outcome.proofs.Owned.{refused_quietly}

pub some_name : (name : List ℕ) (names : List (List ℕ)) → name ∷ names ≡ [] → ⊥
some_name name names e = cc

pub data TaskEnds (task : Task) (outcome : Outcome) : Type 0 where
  well : outcome.fault ≡ None → TaskEnds task outcome
  wrong : (fault : Fault) → outcome.fault ≡ Some fault → TaskFaults task fault → IsOwnFault fault → IsQuietAt (status_of fault) outcome.out
      → TaskEnds task outcome

making_ends : (making : Making) (whole : ℕ) (a : Outcome) → ((fault : Fault) → making.faults fault → IsOwnFault fault) → MakingEnds making whole a
    → TaskEnds (makes making) a
making_ends making whole a own (making_well none is) = well none
making_ends making whole a own (making_wrong fault is has quiet) = wrong fault is has (own fault has) quiet

usage_own : (fault : Fault) → fault ≡ faults.Usage → IsOwnFault fault
usage_own fault e = subst IsOwnFault (sym e) (record { nameless = tt; status = tt })

pub task_ends : (log : List ℕ → List ℕ) (task : Task) (range : Type 0) (reads : Reads) → LawfulFor range reads task → (known : Known) (whole : ℕ) (a : Outcome)
    → logs_in task ≡ [] → TaskGives log task known whole a → TaskEnds task a
task_ends log (makes making) range reads law known whole a alone p = making_ends making whole a law.own (law.ends known whole a p)
task_ends log (follows name watches) range reads law known whole a alone p = absurd (some_name name [] alone)
task_ends log (refuses fault) range reads law known whole a alone p =
    wrong fault (ap (λ (o : Outcome). o.fault) p) refl (usage_own fault law.0) (refused_quietly fault whole a p)

nothing_shown : (log : List ℕ → List ℕ) (fault : Fault) (known : Known) (whole : ℕ) (s : Seen) → fault ≡ faults.Usage
    → IsShown (TaskFinds log (refuses fault)) known s (refused fault whole)
nothing_shown log fault known whole s e =
    subst (λ (f : Fault). IsShown (TaskFinds log (refuses f)) known s (refused f whole)) (sym e) (λ written says. tt)

pub task_shown : (log : List ℕ → List ℕ) (task : Task) (range : Type 0) (reads : Reads) → LawfulFor range reads task → (known : Known) (whole : ℕ) (a : Outcome)
    (s : Seen) → logs_in task ≡ [] → TaskGives log task known whole a → IsShown (TaskFinds log task) known s a
task_shown log (makes making) range reads law known whole a s alone p = law.finds known whole a s p
task_shown log (follows name watches) range reads law known whole a s alone p = absurd (some_name name [] alone)
task_shown log (refuses fault) range reads law known whole a s alone p =
    subst (IsShown (TaskFinds log (refuses fault)) known s) (sym p) (nothing_shown log fault known whole s law.0)

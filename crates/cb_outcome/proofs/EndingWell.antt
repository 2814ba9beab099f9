-- Where all files pass, and the log isn't too long, only what the task may end with is wrong.
use Rattle.std.proofs.Common.{◌≡◌, ◌≤◌, ◌∙◌, ℕ, List, [], ◌∷◌, length, refl, sym, ap, subst, arith, inl, inr, Some}
use Rattle.cb_report.specs.declared.fault.Fault.{Fault}
use Rattle.cb_outcome.specs.Outcome.{Outcome}
use Rattle.cb_outcome.specs.Judged.{Known}
use Rattle.cb_outcome.specs.Contents.{Reads, log_from}
use Rattle.cb_outcome.specs.Command.{Making, Task, makes, follows, refuses, logs_in, reads_of, TaskGives, TaskFaults}
use Rattle.cb_outcome.specs.LogJobs.{Watch, LogTells, log_limit}
use Rattle.cb_outcome.specs.Laws.{PassedEndWell}
use Rattle.cb_outcome.specs.Asked.{command_for}
use Rattle.cb_outcome.proofs.Asked.{lawful}
use Rattle.cb_outcome.proofs.Lawful.{MakingEnds, well, wrong, LawfulFor}
use Rattle.cb_outcome.proofs.Outcomes.{passed_go_to_job, some_is_not_none}

same_some : (f g : Fault) → Some f ≡ Some g → f ≡ g
same_some f g e = cc

makes_well : (making : Making) (whole : ℕ) (a : Outcome) → MakingEnds making whole a → (fault : Fault) → a.fault ≡ Some fault → making.faults fault
makes_well making whole a (well none is) fault e = absurd (some_is_not_none fault (sym e ∙ none))
makes_well making whole a (wrong other is has quiet) fault e = subst making.faults (same_some other fault (sym is ∙ e)) has

follows_well : (watch : Watch) (name log : List ℕ) (whole : ℕ) (a : Outcome) → length log ≤ log_limit → LogTells watch name log whole a → (fault : Fault)
    → a.fault ≡ Some fault → ⊥
follows_well watch name log whole a short (inl p) fault e = some_is_not_none fault (sym e ∙ ap (λ (o : Outcome). o.fault) p.gives)
follows_well watch name log whole a short (inr p) fault e = let long = p.long in omega (arith, short, long)

task_ends_well : (log : List ℕ → List ℕ) (task : Task) (range : Type 0) (reads : Reads) → LawfulFor range reads task → (known : Known) (whole : ℕ) (a : Outcome)
    → ((name : List ℕ) → logs_in task ≡ name ∷ [] → length (log name) ≤ log_limit) → TaskGives log task known whole a → (fault : Fault)
    → a.fault ≡ Some fault → TaskFaults task fault
task_ends_well log (makes making) range reads law known whole a short p fault e = makes_well making whole a (law.ends known whole a p) fault e
task_ends_well log (follows name watches) range reads law known whole a short (watch, is, p) fault e =
    follows_well watch name (log name) whole a (short name refl) p fault e
task_ends_well log (refuses refusal) range reads law known whole a short p fault e =
    same_some fault refusal (sym e ∙ ap (λ (o : Outcome). o.fault) p)

pub passed_end_well : PassedEndWell
passed_end_well asked left known a passed short gives =
    let c = command_for asked in
    let (whole, job) = passed_go_to_job asked left known a passed gives in
    task_ends_well (λ name. log_from left (reads_of c) name) c.task c.range (reads_of c) (lawful asked) known whole a short job

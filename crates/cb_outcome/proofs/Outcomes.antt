-- The outcome of a command and its files is one, and what is due is a prefix of its output.
use Rattle.std.proofs.Common.{◌≡◌, ◌≢◌, ℕ, ◌+◌, suc, min, take, List, [], ◌∷◌, ◌++◌, length, refl, sym, ap, ◌∙◌, subst, inl, inr, Some, arith}
use Rattle.std.specs.Prelude.{Option, None, map, IsSome, T}
use Rattle.std.proofs.lemmas.List.{length-append, length-map}
use Rattle.std.proofs.Math.Nat.{min-le_right}
use Rattle.cb_outcome.specs.Roles.{Role}
use Rattle.cb_report.specs.declared.fault.Fault.{Fault}
use Rattle.cb_outcome.specs.Outcome.{Outcome, refused}
use Rattle.cb_outcome.specs.Judged.{File, Known, nothing, Job, Gives, PassFrom}
use Rattle.cb_outcome.specs.Contents.{Left, Reads, names_of, with_texts, files_from, log_from}
use Rattle.cb_outcome.specs.LogJobs.{Watch, PrefixTells, LogTells, log_limit}
use Rattle.cb_outcome.specs.Command.{Command, Making, Task, makes, follows, refuses, logs_in, reads_of, file_words, WatchesLog, TaskGives, JobGives}
use Rattle.cb_outcome.specs.Asked.{command_for}
use Rattle.cb_outcome.specs.Answer.{IsOutcome, IsReportedUpto, IsDue}
use Rattle.cb_outcome.specs.Laws.{BeginsWith, OutcomeIsOne, DueIsPrefix, PassedGoToJob, DoneReadsAll}
use Rattle.cb_outcome.specs.Point.{Point}
use Rattle.cb_outcome.proofs.Asked.{lawful}
use Rattle.cb_outcome.proofs.Lawful.{MakingEnds, well, wrong, LawfulFor, IsLawful}
use Rattle.cb_outcome.proofs.LogsOne.{tells_one, tells_prefix}
use Rattle.cb_outcome.proofs.Once.{IsSound, says_sound, pass_sound, says_one, refused_one, not_both}

pub some_name : (name : List ℕ) (names : List (List ℕ)) → name ∷ names ≢ []
some_name name names e = cc

one_log : (name log : List ℕ) → log ∷ [] ≡ name ∷ [] → name ≡ log
one_log name log e = cc

-- where the job gives one outcome, files and job give one
gives_one : (job : Job) → ((known : Known) (w : ℕ) (a b : Outcome) → IsSound known → job known w a → job known w b → a ≡ b)
    → (files : List File) (known : Known) (whole : ℕ) (a b : Outcome) → IsSound known → Gives job known whole files a → Gives job known whole files b → a ≡ b
gives_one job one [] known whole a b sound p q = one known whole a b sound p q
gives_one job one (file ∷ files) known whole a b sound (inl (f, r, e)) (inl (g, s, h)) =
    e ∙ (ap (λ (x : Fault). refused x whole) (refused_one known sound file f g r s) ∙ sym h)
gives_one job one (file ∷ files) known whole a b sound (inl (f, r, e)) (inr (n, s, q)) = absurd (not_both known sound file n f s r)
gives_one job one (file ∷ files) known whole a b sound (inr (n, s, p)) (inl (f, r, e)) = absurd (not_both known sound file n f s r)
gives_one job one (file ∷ files) known whole a b sound (inr (n, s, p)) (inr (m, t, q)) =
    let same : m ≡ n = says_one known sound file m n t s in
    gives_one job one files n (suc whole) a b (says_sound known file n sound s) p (subst (λ (k : Known). Gives job k (suc whole) files b) same q)

-- where all files pass, what they give is what the job gives
job_of : (job : Job) (files : List File) (known : Known) (whole : ℕ) (last : Known) (a : Outcome) → IsSound known → PassFrom known files last
    → Gives job known whole files a → (w : ℕ) × job last w a
job_of job [] known whole last a sound same p = (whole, subst (λ (k : Known). job k whole a) same p)
job_of job (file ∷ files) known whole last a sound (n, s, pass) (inl (f, r, e)) = absurd (not_both known sound file n f s r)
job_of job (file ∷ files) known whole last a sound (n, s, pass) (inr (m, t, p)) =
    let same : m ≡ n = says_one known sound file m n t s in
    job_of job files n (suc whole) last a (says_sound known file n sound s) pass (subst (λ (k : Known). Gives job k (suc whole) files a) same p)

-- a task gives one outcome
task_one : (log : List ℕ → List ℕ) (task : Task) (range : Type 0) (reads : Reads) → LawfulFor range reads task → (known : Known) (whole : ℕ) (a b : Outcome) → IsSound known
    → TaskGives log task known whole a → TaskGives log task known whole b → a ≡ b
task_one log (makes making) range reads law known whole a b sound p q = law.one known whole a b sound p q
task_one log (follows name watches) range reads law known whole a b sound (watch, is, p) (other, is', q) =
    let same = law.one known other watch is' is in
    tells_one watch (law.regular known watch sound is) name (log name) whole a b p (subst (λ (x : Watch). LogTells x name (log name) whole b) same q)
task_one log (refuses fault) range reads law known whole a b sound p q = p ∙ sym q

module _ (c : Command) (law : IsLawful c) where
  pub command_one : (left : Left) (a b : Outcome) → IsOutcome c left a → IsOutcome c left b → a ≡ b
  command_one left a b p q =
      gives_one (JobGives left c) (task_one (λ name. log_from left (reads_of c) name) c.task c.range (reads_of c) law) (files_from left (reads_of c)) nothing 0 a b tt p q

pub outcome_is_one : OutcomeIsOne
outcome_is_one asked left a b p q = command_one (command_for asked) (lawful asked) left a b p q

ends_empty : (xs : List ℕ) → xs ≡ xs ++ []
ends_empty [] = refl
ends_empty (x ∷ xs) = ap (λ (ys : List ℕ). x ∷ ys) (ends_empty xs)

-- what the first bytes of a log tell is a prefix of what results from the task
task_prefix : (log : List ℕ → List ℕ) (task : Task) (range : Type 0) (reads : Reads) → LawfulFor range reads task → (known : Known) (whole taken : ℕ) (name : List ℕ) (watch : Watch)
    (due : List ℕ) (outcome : Outcome) → IsSound known → logs_in task ≡ name ∷ [] → WatchesLog task known watch
    → PrefixTells watch (take (min taken log_limit) (log name)) due → TaskGives log task known whole outcome → BeginsWith outcome.out due
task_prefix log (makes making) range reads law known whole taken name watch due outcome sound one is f gives = absurd is
task_prefix log (follows own watches) range reads law known whole taken name watch due outcome sound one is f (other, is', g) =
    let same = law.one known other watch is' is in
    let reported = subst (λ (n : List ℕ). PrefixTells watch (take (min taken log_limit) (log n)) due) (one_log name own one) f in
    tells_prefix watch (law.regular known watch sound is) own (log own) (min taken log_limit) whole (min-le_right taken log_limit) due outcome reported
    (subst (λ (x : Watch). LogTells x own (log own) whole outcome) same g)
task_prefix log (refuses fault) range reads law known whole taken name watch due outcome sound one is f gives = absurd is

module _ (c : Command) (law : IsLawful c) (left : Left) where
  reported_prefix : (taken : ℕ) (due : List ℕ) (outcome : Outcome) → IsReportedUpto left c taken due → IsOutcome c left outcome → BeginsWith outcome.out due
  reported_prefix taken due outcome reported answers =
      let (whole, gives) = job_of (JobGives left c) (files_from left (reads_of c)) nothing 0 reported.known outcome tt reported.pass answers in
      task_prefix (λ name. log_from left (reads_of c) name) c.task c.range (reads_of c) law reported.known whole taken reported.name reported.watch due outcome
      (pass_sound nothing (files_from left (reads_of c)) reported.known tt reported.pass) reported.log reported.follows reported.tells gives

  pub due_prefix : (point : Point) (due : List ℕ) (outcome : Outcome) → IsOutcome c left outcome → IsDue c left point due → BeginsWith outcome.out due
  due_prefix Point.start due outcome is e = (outcome.out, ap (λ (xs : List ℕ). xs ++ outcome.out) (sym e))
  due_prefix (Point.upto taken) due outcome is reported = reported_prefix taken due outcome reported is
  due_prefix Point.end due outcome is (other, it, e) =
      let same : outcome ≡ other = command_one c law left outcome other is it in
      ([], ap (λ (o : Outcome). o.out) same ∙ (sym e ∙ ends_empty due))

pub due_is_prefix : DueIsPrefix
due_is_prefix asked left point due outcome is reported = due_prefix (command_for asked) (lawful asked) left point due outcome is reported

pub passed_go_to_job : PassedGoToJob
passed_go_to_job asked left known outcome pass is =
    job_of (JobGives left (command_for asked)) (files_from left (reads_of (command_for asked))) nothing 0 known outcome tt pass is

-- ---- an outcome without a fault

pub some_is_not_none : (fault : Fault) → Some fault ≡ None → ⊥
some_is_not_none fault e = subst T (sym (subst (λ (o : Option Fault). IsSome o) e refl)) tt

refused_is_not_done : (fault : Fault) (whole : ℕ) (outcome : Outcome) → outcome ≡ refused fault whole → outcome.fault ≡ None → ⊥
refused_is_not_done fault whole outcome e none = some_is_not_none fault (sym (ap (λ (o : Outcome). o.fault) e) ∙ none)

gives_all : (job : Job) (n : ℕ) → ((known : Known) (w : ℕ) (a : Outcome) → job known w a → a.fault ≡ None → a.whole ≡ w + n)
    → (files : List File) (known : Known) (whole : ℕ) (a : Outcome) → Gives job known whole files a → a.fault ≡ None → a.whole ≡ whole + length files + n
gives_all job n ends [] known whole a p none = let e = ends known whole a p none in omega (arith, e)
gives_all job n ends (file ∷ files) known whole a (inl (f, r, e)) none = absurd (refused_is_not_done f whole a e none)
gives_all job n ends (file ∷ files) known whole a (inr (next, s, p)) none =
    let e = gives_all job n ends files next (suc whole) a p none in omega (arith, e)

-- how a making ends, seen from its fault
ends_whole : (making : Making) (whole : ℕ) (a : Outcome) → MakingEnds making whole a → a.fault ≡ None → a.whole ≡ whole
ends_whole making whole a (well none is) none' = is
ends_whole making whole a (wrong fault is has quiet) none = absurd (some_is_not_none _ (sym is ∙ none))

log_read : (watch : Watch) (name log : List ℕ) (whole : ℕ) (a : Outcome) → LogTells watch name log whole a → a.fault ≡ None → a.whole ≡ whole + 1
log_read watch name log whole a (inl p) none = let read = ap (λ (o : Outcome). o.whole) p.gives in omega (arith, read)
log_read watch name log whole a (inr p) none = absurd (some_is_not_none _ (sym (ap (λ (o : Outcome). o.fault) p.gives) ∙ none))

task_reads : (log : List ℕ → List ℕ) (task : Task) (range : Type 0) (reads : Reads) → LawfulFor range reads task → (known : Known) (whole : ℕ) (a : Outcome) → TaskGives log task known whole a
    → a.fault ≡ None → a.whole ≡ whole + length (logs_in task)
task_reads log (makes making) range reads law known whole a p none =
    let read = ends_whole making whole a (law.ends known whole a p) none in omega (arith, read)
task_reads log (follows name watches) range reads law known whole a (watch, is, p) none = let read = log_read watch name (log name) whole a p none in omega (arith, read)
task_reads log (refuses fault) range reads law known whole a p none = absurd (refused_is_not_done fault whole a p none)

pub texts_count : (left : Left) (earlier : List (List ℕ)) (files : List (Role × List ℕ)) → length (with_texts left earlier files) ≡ length files
texts_count left earlier [] = refl
texts_count left earlier (file ∷ files) = ap suc (texts_count left (earlier ++ file.1 ∷ []) files)

-- the file words are the judged files, and the log, if there is one
pub names_count : (reads : Reads) → length (names_of reads) ≡ length reads.judged + length reads.logs
names_count reads =
    let both = length-append (map (λ (file : Role × List ℕ). file.1) reads.judged) reads.logs in
    let judged = length-map reads.judged (λ (file : Role × List ℕ). file.1) in
    omega (arith, both, judged)

reads_all : (c : Command) → IsLawful c → (left : Left) (a : Outcome) → IsOutcome c left a → a.fault ≡ None → a.whole ≡ length (file_words c)
reads_all c law left a p none =
    let whole = gives_all (JobGives left c) (length (logs_in c.task))
    (λ known w x gives. task_reads (λ name. log_from left (reads_of c) name) c.task c.range (reads_of c) law known w x gives) (files_from left (reads_of c)) nothing 0 a p none in
    let count = texts_count left [] c.files in
    let names = names_count (reads_of c) in
    omega (arith, whole, count, names)

pub done_reads_all : DoneReadsAll
done_reads_all asked left a p none = reads_all (command_for asked) (lawful asked) left a p none

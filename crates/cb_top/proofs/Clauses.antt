-- The clauses of a run of a command, by what results from it.
use Rattle.std.proofs.Common.{◌≡◌, ◌≢◌, ◌⊎◌, ◌∙◌, ◌≤◌, ℕ, List, [], ◌∷◌, ◌++◌, refl, sym, ap, subst, inl, inr, take, length, slice_get, arith, Result, Ok, Err}
use Rattle.std.specs.Prelude.{Option, Some, map}
use Rattle.std.specs.List.{Contains}
use Rattle.std.proofs.lemmas.List.{length-append}
use Rattle.std.proofs.lemmas.List.Elements.{Contains-append_right}
use Rattle.cb_model.proofs.Rising.{contains_head}
use Rattle.cb_io.specs.Outside.{SinkReport, WritesAll, WritesPrefix, WriteFailed}
use Rattle.cb_outcome.specs.Roles.{Role}
use Rattle.cb_report.specs.Text.{bytes_of_text}
use Rattle.cb_report.specs.Status.{OnAnswer}
use Rattle.cb_report.specs.Faults.{status_of, ending}
use Rattle.cb_report.specs.FaultTexts.{fault_text, fault_line_text}
use Rattle.cb_report.specs.Said.{TakesLine}
use Rattle.cb_report.specs.declared.fault.Fault.{Fault}
use Rattle.cb_report.specs.declared.fault.Fault.TheVariants as faults
use Rattle.cb_report.specs.declared.status.Status.{Status}
use Rattle.cb_report.specs.declared.status.Status.TheVariants as statuses
use Rattle.cb_outcome.specs.Outcome.{Outcome, refused}
use Rattle.cb_outcome.specs.Judged.{Known, nothing, Gives, PassFrom}
use Rattle.cb_outcome.specs.Contents.{Left, Reads, HasRole, with_texts, files_from, log_from}
use Rattle.cb_outcome.specs.Command.{Command, Task, makes as task_makes, follows as task_follows, refuses as task_refuses, IsDoing, IsTaskRefusal, reads_of, file_words, TaskGives, TaskFaults, JobGives}
use Rattle.cb_outcome.specs.Answer.{IsOutcome}
use Rattle.cb_outcome.specs.Point.{Point}
use Rattle.cb_outcome.specs.Reading.{WhereReported, ReadsTo}
use Rattle.cb_outcome.specs.Seen.{Seen}
use Rattle.cb_outcome.specs.Ends.{MayEnd}
use Rattle.cb_outcome.specs.Clauses.{Answers, AnswersOutcome, WritesDue, ReadsJudged, HaveAllPassed, KeepsQuiet, NamesFileWord, SaysStatus, ReadsInOrder, Blames}
use Rattle.cb_outcome.specs.Finds.{Finds}
use Rattle.cb_file_kinds.specs.declared.output.Output.{Output}
use Rattle.cb_file_kinds.specs.Kinds.{file_in_role, IsWant, FailsToRead}
use Rattle.cb_file_kinds.specs.Ending.{names, MakesOutput, WantsMemory, IsRefusedThere, FileStops, Comes, IsDelivered, IsCutOff, Delivers}
use Rattle.cb_log_commands.specs.Following.{FollowsLog}
use Rattle.cb_log_commands.specs.Ways.{EndsFor, Ends}
use Rattle.cb_outcome.proofs.Ended.{some_name}
use Rattle.cb_top.proofs.Followed as follow
use Rattle.cb_outcome.proofs.Lawful.{LawfulFor, IsLawful}
use Rattle.cb_outcome.proofs.Outcomes.{texts_count, names_count}
use Rattle.cb_file_kinds.proofs.Chain.{if_some, if_some2, of_all, map_append, take_prefix, take_whole, reads_all, reads_none}
use Rattle.cb_top.proofs.Made.{gives_job, gives_refused}
use Rattle.cb_top.proofs.Plain.{IsPlain, refused_plain, fit}

-- ---- what may come of a run

-- all bytes were written, and the run ends with the fault, if there is one
pub record Wrote (bytes : List ℕ) (fault : Option Fault) (status : Status) (s : Seen) : Type 0 where
  pub written : WritesAll s.out s.out_after bytes
  pub status_is : status ≡ ending fault
  pub says : TakesLine s.err s.err_after (fault_line_text fault)

-- a write failed, and the run ends with that
pub record Broke (bytes : List ℕ) (status : Status) (s : Seen) : Type 0 where
  pub prefix : WritesPrefix s.out s.out_after bytes
  pub failed : WriteFailed s.out s.out_after
  pub status_is : status ≡ statuses.WriteFault
  pub says : TakesLine s.err s.err_after (fault_text faults.WriteFault)

-- a run without output: its status and its line are those of the fault
abbrev Ended : Fault → Status → Seen → Type 0
Ended fault status s = Wrote [] (Some fault) status s

-- a file that stopped it
pub record Stopped (c : Command) (s : Seen) (fault : Fault) : Type 0 where
  pub earlier : List (Role × List ℕ)
  pub file : Role × List ℕ
  pub later : List (Role × List ℕ)
  pub files_are : c.files ≡ earlier ++ file ∷ later
  pub known : Known
  pub passed : WhereReported s.files (λ left. PassFrom nothing (with_texts left [] earlier) known)
  pub read : ReadsTo (length earlier) (file_words c) s.files s.files_after

pub data Story (c : Command) (status : Status) (s : Seen) : Type 0 where
  idle : (fault : Fault) → IsTaskRefusal c.task fault → s.files_after ≡ s.files → Ended fault status s → Story c status s
  made : IsDoing c.task → (bytes : List ℕ) (fault : Option Fault) → MakesOutput c s.files s.files_after bytes fault → Wrote bytes fault status s → Story c status s
  unwritten : IsDoing c.task → (bytes : List ℕ) (fault : Option Fault) → MakesOutput c s.files s.files_after bytes fault → Broke bytes status s → Story c status s
  wanting : IsDoing c.task → (fault : Fault) → WantsMemory (reads_of c) s.files s.files_after fault → Ended fault status s → Story c status s
  failed : IsDoing c.task → (fault : Fault) → (stopped : Stopped c s fault) → FailsToRead stopped.file.1 s.files s.files_after fault
      → Ended fault status s → Story c status s
  refusing : IsDoing c.task → (fault : Fault) → (stopped : Stopped c s fault)
      → IsRefusedThere stopped.earlier stopped.file stopped.known s.files fault → Ended fault status s → Story c status s
  followed : IsDoing c.task → (end : Option Fault) → FollowsLog c s.files s.files_after s.out s.out_after end → status ≡ ending end
      → TakesLine s.err s.err_after (fault_line_text end) → Story c status s

module _ (c : Command) (doing : IsDoing c.task) (s : Seen) (status : Status) where
  stopped_of : (fault : Fault) → FileStops (reads_of c) s.files s.files_after fault → Stopped c s fault
  stopped_of fault at = record {
    earlier = at.earlier;
    file = at.file;
    later = at.later;
    files_are = at.files_are;
    known = at.known;
    passed = at.passed;
    read = at.read;
  }

  why_stopped : (fault : Fault) (at : FileStops (reads_of c) s.files s.files_after fault)
      → FailsToRead at.file.1 s.files s.files_after fault ⊎ IsRefusedThere at.earlier at.file at.known s.files fault → Ended fault status s → Story c status s
  unfolding stopped_of
  why_stopped fault at (inl fails) end = failed doing fault (stopped_of fault at) fails end
  why_stopped fault at (inr is) end = refusing doing fault (stopped_of fault at) is end

module _ (s : Seen) (status : Status) (end : Option Fault) (status_is : status ≡ ending end) (says : TakesLine s.err s.err_after (fault_line_text end)) where
  wrote : (bytes : List ℕ) (fault : Option Fault) → IsDelivered bytes fault end s.out s.out_after → Wrote bytes fault status s
  wrote bytes fault is = record {
    written = is.written;
    status_is = status_is ∙ ap ending is.end_is;
    says = subst (λ (e : Option Fault). TakesLine s.err s.err_after (fault_line_text e)) is.end_is says;
  }

  broke : (bytes : List ℕ) → IsCutOff bytes end s.out s.out_after → Broke bytes status s
  broke bytes is = record {
    prefix = is.prefix;
    failed = is.failed;
    status_is = status_is ∙ ap ending is.end_is;
    says = subst (λ (e : Option Fault). TakesLine s.err s.err_after (fault_line_text e)) is.end_is says;
  }

  made_story : (c : Command) → IsDoing c.task → (made : Result Output Fault) → Comes c s.files s.files_after made
      → Delivers made end s.out s.out_after → Story c status s
  made_story c doing (Ok output) comes (inl is) =
      made doing (bytes_of_text output.text) output.fault comes (wrote (bytes_of_text output.text) output.fault is)
  made_story c doing (Ok output) comes (inr is) = unwritten doing (bytes_of_text output.text) output.fault comes (broke (bytes_of_text output.text) is)
  made_story c doing (Err fault) (inl want) is = wanting doing fault want (wrote [] (Some fault) is)
  made_story c doing (Err fault) (inr at) is = why_stopped c doing s status fault at at.why (wrote [] (Some fault) is)

  task_story : (c : Command) (task : Task) → (IsDoing task → IsDoing c.task) → ((fault : Fault) → IsTaskRefusal task fault → IsTaskRefusal c.task fault)
      → EndsFor task c s.files s.files_after s.out s.out_after end → Story c status s
  task_story c (task_makes making) doing refusal ends = made_story c (doing tt) ends.made ends.comes ends.delivers
  task_story c (task_follows name watches) doing refusal (inl ends) = made_story c (doing tt) ends.made ends.comes ends.delivers
  task_story c (task_follows name watches) doing refusal (inr follows) = followed (doing tt) end follows status_is says
  task_story c (task_refuses fault) doing refusal ends =
      idle fault (refusal fault refl) ends.same (wrote [] (Some fault) (record { written = ends.written; end_is = ends.end_is }))

  pub story : (c : Command) → Ends c s.files s.files_after s.out s.out_after end → Story c status s
  story c ends = task_story c c.task (λ doing. doing) (λ fault is. is) ends

-- ---- facts

-- a fact of the status
at_status : (P : Status → Type 0) (status other : Status) → status ≡ other → P other → P status
at_status P status other e p = subst P (sym e) p

on_answer : (status : Status) (P : Type 0) → P → OnAnswer status P
on_answer statuses.ReadFault P p = tt
on_answer statuses.WriteFault P p = tt
on_answer statuses.Memory P p = tt
on_answer status P p = p

keeps_quiet : (c : Command) (status : Status) (s : Seen) → WritesAll s.out s.out_after []
    → KeepsQuiet c status s
keeps_quiet c statuses.Done s q = tt
keeps_quiet c statuses.Distance s q = tt
keeps_quiet c statuses.WriteFault s q = tt
keeps_quiet c statuses.Limit s q = inl q
keeps_quiet c statuses.ReadFault s q = inl q
keeps_quiet c statuses.Memory s q = inl q
keeps_quiet c status s q = q

prefix_none : (out out' : SinkReport) → WritesAll out out' [] → WritesPrefix out out' []
prefix_none out out' q = (0, omega arith, q)

prefix_all : (out out' : SinkReport) (bytes : List ℕ) → WritesAll out out' bytes → WritesPrefix out out' bytes
prefix_all out out' bytes w = (length bytes, omega arith, subst (λ (l : List ℕ). WritesAll out out' l) (sym (take_whole bytes)) w)

not_nil : {X : Type 0} (prefix rest : List X) (x : X) → prefix ++ x ∷ rest ≡ [] → ⊥
not_nil [] rest x e = cc
not_nil (y ∷ ys) rest x e = cc

-- ---- a command

-- the outcome of a request whose judged files were all read
abbrev outcome_of : Command → List ℕ → Option Fault → Outcome
outcome_of c bytes fault = record { out = bytes; fault = fault; whole = length c.files }

module _ (c : Command) where
  module _ (s : Seen) (bytes : List ℕ) (fault : Option Fault) (makes : MakesOutput c s.files s.files_after bytes fault) where
    outcome_is : (left : Left) → PassFrom nothing (files_from left (reads_of c)) makes.known → IsOutcome c left (outcome_of c bytes fault)
    outcome_is left said =
        gives_job (JobGives left c) (files_from left (reads_of c)) nothing makes.known 0 (outcome_of c bytes fault) said
        (λ w e. let count = texts_count left [] c.files in
        subst (λ (n : ℕ). JobGives left c makes.known w (record { out = bytes; fault = fault; whole = n })) (omega (arith, e, count)) (makes.gives left w))

    read_whole : ReadsTo (length c.files) (file_words c) s.files s.files_after
    read_whole =
        let count = names_count (reads_of c) in
        let none = ap length makes.alone in
        subst (λ (n : ℕ). ReadsTo n (file_words c) s.files s.files_after) (omega (arith, count, none))
        (reads_all s.files s.files_after (file_words c) makes.read)

    has_passed : WhereReported s.files (HaveAllPassed c)
    has_passed = if_some s.files.left _ _ (λ left said. (makes.known, said)) makes.said

    has_read : ReadsJudged c s
    has_read = (length c.files, omega arith, read_whole)

  module _ (s : Seen) (fault : Fault) (at : Stopped c s fault) where
    names_are : file_words c ≡ names at.earlier ++ at.file.1 ∷ (names at.later ++ (reads_of c).logs)
    names_are =
        let first : names c.files ≡ names at.earlier ++ at.file.1 ∷ names at.later =
        ap names at.files_are ∙ map_append (λ (file : Role × List ℕ). file.1) at.earlier (at.file ∷ at.later) in
        ap (λ (ns : List (List ℕ)). ns ++ (reads_of c).logs) first ∙ appended (names at.earlier) at.file.1 (names at.later) (reads_of c).logs
      where
        appended : (xs : List (List ℕ)) (y : List ℕ) (ys zs : List (List ℕ)) → (xs ++ y ∷ ys) ++ zs ≡ xs ++ y ∷ (ys ++ zs)
        appended [] y ys zs = refl
        appended (x ∷ xs) y ys zs = ap (λ (l : List (List ℕ)). x ∷ l) (appended xs y ys zs)

    -- it is a judged file
    before_log : length c.files ≤ length at.earlier → ⊥
    before_log beyond =
        let all = ap length at.files_are in
        let parts = length-append at.earlier (at.file ∷ at.later) in
        omega (arith, beyond, all, parts)

    some_file : file_words c ≢ []
    some_file e = not_nil (names at.earlier) (names at.later ++ (reads_of c).logs) at.file.1 (sym names_are ∙ e)

    among : Contains (file_words c) at.file.1
    among = subst (λ (ns : List (List ℕ)). Contains ns at.file.1) (sym names_are)
        (Contains-append_right (names at.earlier) (at.file.1 ∷ (names at.later ++ (reads_of c).logs)) at.file.1 (contains_head at.file.1 (names at.later ++ (reads_of c).logs)))

    has_role : HasRole (reads_of c) at.file.0
    has_role =
        let roles : map (λ file. file.0) c.files ≡ map (λ file. file.0) at.earlier ++ at.file.0 ∷ map (λ file. file.0) at.later =
        ap (λ (fs : List (Role × List ℕ)). map (λ file. file.0) fs) at.files_are ∙ map_append (λ (file : Role × List ℕ). file.0) at.earlier (at.file ∷ at.later) in
        subst (λ (rs : List Role). Contains rs at.file.0) (sym roles)
        (Contains-append_right (map (λ file. file.0) at.earlier) (at.file.0 ∷ map (λ file. file.0) at.later) at.file.0 (contains_head at.file.0 (map (λ file. file.0) at.later)))

    place_is : slice_get (file_words c) (length at.earlier) ≡ Some at.file.1
    place_is =
        ap (λ (ns : List (List ℕ)). slice_get ns (length at.earlier)) names_are
        ∙ at_named at.earlier (names at.later ++ (reads_of c).logs) at.file.1
      where
        at_named : (files : List (Role × List ℕ)) (rest : List (List ℕ)) (name : List ℕ) → slice_get (names files ++ name ∷ rest) (length files) ≡ Some name
        at_named [] rest name = refl
        at_named (f ∷ fs) rest name = at_named fs rest name

    passed_there : WhereReported s.files (λ left. PassFrom nothing (with_texts left [] (take (length at.earlier) c.files)) at.known)
    passed_there =
        let taken : take (length at.earlier) c.files ≡ at.earlier = ap (take (length at.earlier)) at.files_are ∙ take_prefix at.earlier (at.file ∷ at.later) in
        if_some s.files.left _ _ (λ left said. subst (λ (fs : List (Role × List ℕ)). PassFrom nothing (with_texts left [] fs) at.known) (sym taken) said) at.passed

-- nothing is done
pub record IsIdle (c : Command) (fault : Fault) : Type 0 where
  pub usage : fault ≡ faults.Usage
  pub files : c.files ≡ []
  pub gives : (left : Left) (known : Known) (whole : ℕ) → JobGives left c known whole (refused fault whole)
  pub faults : TaskFaults c.task fault

record TaskIsIdle (task : Task) (reads : Reads) (fault : Fault) : Type 0 where
  pub usage : fault ≡ faults.Usage
  pub files : reads.judged ≡ []
  pub gives : (log : List ℕ → List ℕ) (known : Known) (whole : ℕ) → TaskGives log task known whole (refused fault whole)
  pub faults : TaskFaults task fault

task_idle : (task : Task) (range : Type 0) (reads : Reads) → LawfulFor range reads task → (fault : Fault) → IsTaskRefusal task fault → TaskIsIdle task reads fault
task_idle (task_makes making) range reads law fault is = absurd is
task_idle (task_follows name watches) range reads law fault is = absurd is
task_idle (task_refuses other) range reads law fault is = record {
  usage = sym is ∙ law.0;
  files = law.1;
  gives = λ log known whole. ap (λ (f : Fault). refused f whole) (sym is);
  faults = sym is;
}

idle_is : (c : Command) → IsLawful c → (fault : Fault) → IsTaskRefusal c.task fault → IsIdle c fault
idle_is c law fault is =
    let none = task_idle c.task c.range (reads_of c) law fault is in record {
      usage = none.usage;
      files = none.files;
      gives = λ left known whole. none.gives (λ name. log_from left (reads_of c) name) known whole;
      faults = none.faults;
    }

-- ---- the clauses

module _ (c : Command) (law : IsLawful c) (s : Seen) where
  abbrev AnswerOf : Status → Type 0
  AnswerOf status = AnswersOutcome c status s

  pub answer : (status : Status) → Story c status s → AnswersOutcome c status s
  answer status (idle fault is same end) =
      let none = idle_is c law fault is in
      at_status AnswerOf status (status_of fault) end.status_is
      (on_answer (status_of fault) (WhereReported s.files (Answers c (status_of fault) s)) (of_all s.files.left _ (λ left. record {
        outcome = refused fault 0;
        is = subst (λ (fs : List (Role × List ℕ)). Gives (JobGives left c) nothing 0 (with_texts left [] fs) (refused fault 0)) (sym none.files) (none.gives left nothing 0);
        status_is = refl;
        output = end.written;
        line = end.says;
        read = reads_none s.files s.files_after (file_words c) same;
      })))
  answer status (made doing bytes fault makes end) =
      at_status AnswerOf status (ending fault) end.status_is
      (on_answer (ending fault) (WhereReported s.files (Answers c (ending fault) s)) (if_some s.files.left _ _ (λ left said. record {
        outcome = outcome_of c bytes fault;
        is = outcome_is c s bytes fault makes left said;
        status_is = refl;
        output = end.written;
        line = end.says;
        read = read_whole c s bytes fault makes;
      }) makes.said))
  answer status (unwritten doing bytes fault makes end) =
      at_status AnswerOf status statuses.WriteFault end.status_is tt
  answer status (wanting doing fault want end) =
      at_status AnswerOf status statuses.Memory (end.status_is ∙ want.is) tt
  answer status (failed doing fault at fails end) =
      at_status AnswerOf status statuses.ReadFault (end.status_is ∙ ap status_of fails.is) tt
  answer status (refusing doing fault at is end) =
      at_status AnswerOf status (status_of fault) end.status_is
      (on_answer (status_of fault) (WhereReported s.files (Answers c (status_of fault) s)) (if_some2 s.files.left _ _ _ (λ left said text_is. record {
        outcome = refused fault (length at.earlier);
        is = subst (λ (fs : List (Role × List ℕ)). Gives (JobGives left c) nothing 0 (with_texts left [] fs) (refused fault (length at.earlier))) (sym at.files_are)
            (subst (λ (n : ℕ). Gives (JobGives left c) nothing 0 (with_texts left [] (at.earlier ++ at.file ∷ at.later)) (refused fault n)) (omega arith)
            (gives_refused (JobGives left c) left [] at.earlier at.file at.later nothing at.known 0 is.text fault said text_is is.refuses));
        status_is = refl;
        output = end.written;
        line = end.says;
        read = at.read;
      }) at.passed is.text_is))
  answer status (followed doing end follows is says) =
      at_status AnswerOf status (ending end) is (follow.answer c law doing s end follows says)

  nothing_due : WritesAll s.out s.out_after [] → WritesDue c s
  nothing_due quiet = of_all s.files.left _ (λ left. (Point.start, [], refl, prefix_none s.out s.out_after quiet))

  abbrev PrefixOf : Status → Type 0
  PrefixOf status = WritesDue c s

  pub prefix : (status : Status) → Story c status s → WritesDue c s
  prefix status (idle fault is same end) = nothing_due end.written
  prefix status (made doing bytes fault makes end) =
      (if_some s.files.left _ _ (λ left said. (
        Point.end,
        bytes,
        (outcome_of c bytes fault, outcome_is c s bytes fault makes left said, refl),
        prefix_all s.out s.out_after bytes end.written,
      )) makes.said)
  prefix status (unwritten doing bytes fault makes end) =
      (if_some s.files.left _ _ (λ left said. (
        Point.end,
        bytes,
        (outcome_of c bytes fault, outcome_is c s bytes fault makes left said, refl),
        end.prefix,
      )) makes.said)
  prefix status (wanting doing fault want end) = nothing_due end.written
  prefix status (failed doing fault at fails end) = nothing_due end.written
  prefix status (refusing doing fault at is end) = nothing_due end.written
  prefix status (followed doing end follows is says) =
      (follow.prefix c law doing s end follows)

  abbrev QuietOf : Status → Type 0
  QuietOf status = KeepsQuiet c status s

  pub quiet : (status : Status) → Story c status s → KeepsQuiet c status s
  quiet status (idle fault is same end) = keeps_quiet c status s end.written
  quiet status (made doing bytes fault makes end) =
      at_status QuietOf status (ending fault) end.status_is (fit c law doing s bytes fault makes end.written end.says).quiet
  quiet status (unwritten doing bytes fault makes end) =
      at_status QuietOf status statuses.WriteFault end.status_is tt
  quiet status (wanting doing fault want end) = keeps_quiet c status s end.written
  quiet status (failed doing fault at fails end) = keeps_quiet c status s end.written
  quiet status (refusing doing fault at is end) = keeps_quiet c status s end.written
  quiet status (followed doing end follows is says) =
      at_status QuietOf status (ending end) is (follow.quiet c law doing s end follows)

  abbrev LineOf : Status → Type 0
  LineOf status = SaysStatus c status s

  want_names_none : (fault : Fault) → IsWant fault → NamesFileWord c (Some fault)
  want_names_none (faults.LimitBytes name) want = let none : ⊥ = cc in absurd none
  want_names_none (faults.LimitLine name line) want = let none : ⊥ = cc in absurd none
  want_names_none (faults.ReadFault name) want = let none : ⊥ = cc in absurd none
  want_names_none fault want = tt

  plain_of : IsDoing c.task → (fault : Fault) (at : Stopped c s fault)
      → IsRefusedThere at.earlier at.file at.known s.files fault → IsPlain c (Some fault) s
  plain_of doing fault at is =
      refused_plain c s doing at.known (file_in_role at.file.0 at.file.1 is.text) fault (has_role c s fault at) (among c s fault at) (some_file c s fault at) is.refuses

  pub line : (status : Status) → Story c status s → SaysStatus c status s
  line status (idle fault is same end) =
      record {
        fault = Some fault;
        status_is = end.status_is;
        says = end.says;
        names = subst (λ (f : Fault). NamesFileWord c (Some f)) (sym (idle_is c law fault is).usage) tt;
      }
  line status (made doing bytes fault makes end) =
      (record { fault = fault; status_is = end.status_is; says = end.says; names = (fit c law doing s bytes fault makes end.written end.says).plain.names })
  line status (unwritten doing bytes fault makes end) =
      record { fault = Some faults.WriteFault; status_is = end.status_is; says = end.says; names = tt }
  line status (wanting doing fault want end) =
      record { fault = Some fault; status_is = end.status_is; says = end.says; names = want_names_none fault want.is }
  line status (failed doing fault at fails end) =
      (record {
        fault = Some fault;
        status_is = end.status_is;
        says = end.says;
        names = subst (λ (f : Fault). NamesFileWord c (Some f)) (sym fails.is) (among c s fault at);
      })
  line status (refusing doing fault at is end) =
      (record { fault = Some fault; status_is = end.status_is; says = end.says; names = (plain_of doing fault at is).names })
  line status (followed doing end follows is says) =
      (record { fault = end; status_is = is; says = says; names = follow.names_word c law doing s end follows })

  pub ends : (status : Status) → Story c status s → MayEnd c status
  ends status (idle fault is same end) = at_status (MayEnd c) status (status_of fault) end.status_is (inr (fault, (idle_is c law fault is).faults, refl))
  ends status (made doing bytes fault makes end) =
      at_status (MayEnd c) status (ending fault) end.status_is
      ((fit c law doing s bytes fault makes end.written end.says).plain.ends)
  ends status (unwritten doing bytes fault makes end) =
      at_status (MayEnd c) status statuses.WriteFault end.status_is (inl (doing, tt))
  ends status (wanting doing fault want end) =
      at_status (MayEnd c) status statuses.Memory (end.status_is ∙ want.is) (inl (doing, tt))
  ends status (failed doing fault at fails end) =
      at_status (MayEnd c) status statuses.ReadFault (end.status_is ∙ ap status_of fails.is)
      (inl (doing, some_file c s fault at))
  ends status (refusing doing fault at is end) =
      at_status (MayEnd c) status (status_of fault) end.status_is ((plain_of doing fault at is).ends)
  ends status (followed doing end follows is says) =
      at_status (MayEnd c) status (ending end) is (follow.ends c law doing s end follows)

  abbrev OrderOf : Status → Type 0
  OrderOf status = ReadsInOrder c s

  pub order : (status : Status) → Story c status s → ReadsInOrder c s
  order status (idle fault is same end) = (0, reads_none s.files s.files_after (file_words c) same)
  order status (made doing bytes fault makes end) =
      (length c.files, read_whole c s bytes fault makes)
  order status (unwritten doing bytes fault makes end) =
      (length c.files, read_whole c s bytes fault makes)
  order status (wanting doing fault want end) = (want.whole, want.read)
  order status (failed doing fault at fails end) = (length at.earlier, at.read)
  order status (refusing doing fault at is end) = (length at.earlier, at.read)
  order status (followed doing end follows is says) =
      (length c.files, follow.order c law doing s end follows)

  abbrev FaultOf : Status → Type 0
  FaultOf status = Blames c status s

  pub fault : (status : Status) → Story c status s → Blames c status s
  fault status (idle why is same end) =
      at_status FaultOf status (status_of why) end.status_is (subst (λ (f : Fault). Blames c (status_of f) s) (sym (idle_is c law why is).usage) tt)
  fault status (made doing bytes why makes end) =
      at_status FaultOf status (ending why) end.status_is (fit c law doing s bytes why makes end.written end.says).plain.blames
  fault status (unwritten doing bytes why makes end) =
      at_status FaultOf status statuses.WriteFault end.status_is (record {
        failed = end.failed;
        says = end.says;
        read = has_read c s bytes why makes;
        passed = has_passed c s bytes why makes;
        due = if_some s.files.left _ _ (λ left said. (
          Point.end,
          tt,
          λ name taken is alone has. absurd (some_name name [] (sym is ∙ makes.alone)),
          (bytes, (outcome_of c bytes why, outcome_is c s bytes why makes left said, refl), end.prefix),
        )) makes.said;
        ahead = of_all s.files.left _ (λ left name is. absurd (some_name name [] (sym is ∙ makes.alone)));
      })
  fault status (wanting doing why want end) = at_status FaultOf status statuses.Memory (end.status_is ∙ want.is) (inl end.written)
  fault status (failed doing why at fails end) =
      at_status FaultOf status statuses.ReadFault (end.status_is ∙ ap status_of fails.is) (record {
        place = length at.earlier;
        name = at.file.1;
        is = place_is c s why at;
        failed = fails.failed;
        read = at.read;
        says = subst (λ (f : Fault). TakesLine s.err s.err_after (fault_text f)) fails.is end.says;
        passed = if_some s.files.left _ _ (λ left said. (at.known, said)) (passed_there c s why at);
        written = record {
          judged = λ before. end.written;
          log = λ beyond. absurd (before_log c s why at beyond);
        };
      })
  fault status (refusing doing why at is end) =
      at_status FaultOf status (status_of why) end.status_is (plain_of doing why at is).blames
  fault status (followed doing end follows is says) =
      at_status FaultOf status (ending end) is (follow.fault c law doing s end follows says)

  abbrev FindsOf : Status → Type 0
  FindsOf status = Finds c status s

  pub finds : (status : Status) → Story c status s → Finds c status s
  finds status (idle fault is same end) =
      at_status FindsOf status (status_of fault) end.status_is (subst (λ (f : Fault). Finds c (status_of f) s) (sym (idle_is c law fault is).usage) tt)
  finds status (made doing bytes fault makes end) =
      at_status FindsOf status (ending fault) end.status_is (fit c law doing s bytes fault makes end.written end.says).plain.finds
  finds status (unwritten doing bytes fault makes end) =
      at_status FindsOf status statuses.WriteFault end.status_is tt
  finds status (wanting doing why want end) = at_status FindsOf status statuses.Memory (end.status_is ∙ want.is) tt
  finds status (failed doing why at fails end) =
      at_status FindsOf status statuses.ReadFault (end.status_is ∙ ap status_of fails.is) tt
  finds status (refusing doing why at is end) =
      at_status FindsOf status (status_of why) end.status_is (plain_of doing why at is).finds
  finds status (followed doing end follows is says) =
      at_status FindsOf status (ending end) is (follow.finds c law doing s end follows)

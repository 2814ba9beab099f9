-- The clauses of a run that has come to its log.
use Rattle.std.proofs.Common.{◌≡◌, ◌≢◌, ◌⊎◌, ◌∙◌, ◌≤◌, ◌+◌, ℕ, zero, suc, min, Bool, true, false, List, [], ◌∷◌, ◌++◌, append-nil, length, take, slice_get, refl, sym, ap, subst, inl, inr, arith}
use Rattle.std.specs.Prelude.{Option, None, Some, IfSome, unwrap_or, cond}
use Rattle.std.specs.List.{Contains, list_any}
use Rattle.std.specs.Str.{bytes_eq}
use Rattle.std.specs.Io.KnownBytes.{Consumes}
use Rattle.std.proofs.lemmas.List.{length-append, length-map, length-take-le}
use Rattle.std.proofs.lemmas.List.Elements.{Contains-append_right}
use Rattle.std.proofs.lemmas.Map.Views.{Contains-from_any}
use Rattle.std.proofs.lemmas.Slice.Eq.{bytes_eq-Decides}
use Rattle.cb_model.proofs.Rising.{contains_head}
use Rattle.cb_io.specs.Outside.{contents, left_of, TakesAll, ReadsEach, WritesAll, WritesPrefix}
use Rattle.cb_io.proofs.Reported.{ReadFailed-after, ReadsEach-nil, ReadsEach-next}
use Rattle.cb_outcome.specs.Roles.{Role}
use Rattle.cb_report.specs.Status.{OnAnswer}
use Rattle.cb_report.specs.Faults.{ending}
use Rattle.cb_report.specs.FaultTexts.{fault_line_text}
use Rattle.cb_report.specs.Said.{TakesLine}
use Rattle.cb_report.specs.declared.fault.Fault.{Fault}
use Rattle.cb_report.specs.declared.fault.Fault.TheVariants as faults
use Rattle.cb_report.specs.declared.status.Status.TheVariants as statuses
use Rattle.cb_outcome.specs.Outcome.{Outcome, done, done_with}
use Rattle.cb_outcome.specs.Judged.{Known, nothing, PassFrom}
use Rattle.cb_outcome.specs.Contents.{Left, Reads, with_texts, files_from, log_from}
use Rattle.cb_outcome.specs.Command.{Command, Task, makes, follows, refuses, IsDoing, logs_in, reads_of, file_words, WatchesLog, IsWatch, TaskGives, TaskFinds, JobGives}
use Rattle.cb_outcome.specs.LogJobs.{Watch, WholeTells, PrefixTells, LogTells, log_limit}
use Rattle.cb_outcome.specs.Prints.{PrintsEvents}
use Rattle.cb_outcome.specs.Answer.{IsOutcome, IsDue}
use Rattle.cb_outcome.specs.Point.{Point}
use Rattle.cb_outcome.specs.Reading.{WhereReported, ReadsTo}
use Rattle.cb_outcome.specs.Seen.{Seen}
use Rattle.cb_outcome.specs.Ends.{MayEnd}
use Rattle.cb_outcome.specs.Clauses.{Answers, WritesDue, ReadsJudged, HaveAllPassed, HasComeToLog, KeepsQuiet, NamesFileWord, HasTaken, WritesAllDue, BlamesRead, ahead_limit, IsNearPoint, WritesPastStart, IsNotFarAhead, ReadsNotFarAhead, BlamesWrite, StopsInLog, Blames}
use Rattle.cb_outcome.specs.Finds.{Finds}
use Rattle.cb_file_kinds.specs.Ending.{names}
use Rattle.cb_log_commands.specs.Following.{IsDueUpto, IsDueOfAll, IsNearTaken, TellsLog, GoesWrong, FollowsLog}
use Rattle.cb_file_kinds.proofs.Chain.{if_some, if_some2, take_whole, take_prefix, at_prefix, reads_all, reads_prefix}
use Rattle.cb_outcome.proofs.Ended.{some_name}
use Rattle.cb_outcome.proofs.Lawful.{LawfulFor, IsLawful}
use Rattle.cb_outcome.proofs.Logged.{prints_events}
use Rattle.cb_top.proofs.Made.{gives_job}
use Rattle.cb_outcome.proofs.Once.{pass_sound}
use Rattle.cb_outcome.proofs.Outcomes.{texts_count}
use Rattle.cb_file_kinds.proofs.Searched.{pass_is_one}

-- ---- facts of any command

same_some : {X : Type 0} (x y : X) → Some x ≡ Some y → x ≡ y
same_some x y e = cc

one_log : (name log : List ℕ) → log ∷ [] ≡ name ∷ [] → name ≡ log
one_log name log e = cc

there : {X : Type 0} (o : Option X) (P : X → Type 0) (x : X) → o ≡ Some x → IfSome o P → P x
there {X} o P x e reported = subst (λ (v : Option X). IfSome v P) e reported

-- a task with a log is to follow it
task_follows_log : (log : List ℕ → List ℕ) (task : Task) (name : List ℕ) (known : Known) (watch : Watch) (whole : ℕ) (outcome : Outcome)
    → logs_in task ≡ name ∷ [] → WatchesLog task known watch → LogTells watch name (log name) whole outcome → TaskGives log task known whole outcome
task_follows_log log (makes making) name known watch whole outcome e is tells = absurd is
task_follows_log log (follows own watches) name known watch whole outcome e is tells =
    (watch, is, subst (λ (n : List ℕ). LogTells watch n (log n) whole outcome) (one_log name own e) tells)
task_follows_log log (refuses fault) name known watch whole outcome e is tells = absurd is

watch_one : (task : Task) (range : Type 0) (reads : Reads) → LawfulFor range reads task → (known : Known) (a b : Watch) → WatchesLog task known a
    → WatchesLog task known b → a ≡ b
watch_one (makes making) range reads law known a b p q = absurd p
watch_one (follows name watches) range reads law known a b p q = law.one known a b p q
watch_one (refuses fault) range reads law known a b p q = absurd p

-- what is printed of a whole log finds what it is to find
task_finds_log : (left : Left) (log : List ℕ → List ℕ) (task : Task) (range : Type 0) (reads : Reads) → LawfulFor range reads task → range → (name : List ℕ)
    (known : Known) (watch : Watch) (due : List ℕ) (s : Seen) → logs_in task ≡ name ∷ [] → PassFrom nothing (files_from left reads) known
    → WatchesLog task known watch → WholeTells watch (log name) due → WritesAll s.out s.out_after due → TaskFinds log task known statuses.Done s
task_finds_log left log (makes making) range reads law here name known watch due s e passed is tells written = absurd is
task_finds_log left log (follows own watches) range reads law here name known watch due s e passed is tells written =
    let regular = law.regular known watch (pass_sound nothing (files_from left reads) known tt passed) is in
    let apart = law.apart here left known passed watch is in (
      watch,
      is,
      subst (λ (n : List ℕ). PrintsEvents watch (log n) s.out s.out_after) (one_log name own e)
          (prints_events watch (log name) due s.out s.out_after regular apart tells written),
    )
task_finds_log left log (refuses fault) range reads law here name known watch due s e passed is tells written = absurd is

take_none : (n : ℕ) (xs : List ℕ) → xs ≡ [] → take n xs ≡ []
take_none zero xs e = refl
take_none (suc n) [] e = refl
take_none (suc n) (x ∷ xs) e = cc

-- of these bytes a prefix came, and others are left
consumed : (a b : Option (List ℕ)) (all prefix : List ℕ) → a ≡ Some all → Consumes a b prefix → (rest : List ℕ) × (all ≡ prefix ++ rest) × (b ≡ Some rest)
consumed a b all prefix e came = rest_of b (subst (λ (o : Option (List ℕ)). Consumes o b prefix) e came)
  where
    rest_of : (o : Option (List ℕ)) → Consumes (Some all) o prefix → (rest : List ℕ) × (all ≡ prefix ++ rest) × (o ≡ Some rest)
    rest_of None came = absurd came
    rest_of (Some rest) came = (rest, came, refl)

none_before : (xs ys : List ℕ) → [] ≡ xs ++ ys → length xs ≡ 0
none_before [] ys e = refl
none_before (x ∷ xs) ys e = cc

no_more : (xs ys : List ℕ) → [] ≡ xs ++ ys → (xs ≡ []) × (ys ≡ [])
no_more [] ys e = (refl, sym e)
no_more (x ∷ xs) ys e = cc

any_contains : (names : List (List ℕ)) (name : List ℕ) → list_any (λ other. bytes_eq other name) names ≡ true → Contains names name
any_contains names name e = Contains-from_any {eq = λ q k. bytes_eq k q} (λ x y same. sym ((bytes_eq-Decides y x).0 same)) name names e

module _ (c : Command) (law : IsLawful c) (doing : IsDoing c.task) (s : Seen) (end : Option Fault)
    (follows : FollowsLog c s.files s.files_after s.out s.out_after end) where
  -- ---- how far files were read

  names_are : file_words c ≡ names c.files ++ follows.name ∷ []
  names_are = ap (λ (ns : List (List ℕ)). names c.files ++ ns) follows.log

  read_judged : ReadsTo (length c.files) (file_words c) s.files s.files_after
  read_judged =
      subst (λ (n : ℕ). ReadsTo n (file_words c) s.files s.files_after) (length-map c.files (λ (file : Role × List ℕ). file.1))
      (reads_prefix s.files follows.now s.files_after (names c.files) [] follows.name (file_words c) names_are follows.read
      follows.ends.only.others follows.ends.only.prefix)

  has_read : ReadsJudged c s
  has_read = (length c.files, omega arith, read_judged)

  has_passed : WhereReported s.files (HaveAllPassed c)
  has_passed = if_some s.files.left _ _ (λ left said. (follows.known, said)) follows.passed

  has_come : HasComeToLog c s
  has_come = record {
    follows = λ none. some_name follows.name [] (sym follows.log ∙ none);
    read = has_read;
    passed = has_passed;
  }

  among : Contains (file_words c) follows.name
  among =
      subst (λ (ns : List (List ℕ)). Contains ns follows.name) (sym names_are)
      (Contains-append_right (names c.files) (follows.name ∷ []) follows.name (contains_head follows.name []))

  -- ---- what is due

  -- what is reported of the log, by the bytes left of each name
  in_log : (P : List ℕ → Type 0) → IfSome (left_of follows.now follows.name) P → WhereReported s.files (λ left. P (log_from left (reads_of c) follows.name))
  in_log P reported =
      if_some s.files.left _ _ (λ left known. there (left_of follows.now follows.name) P (log_from left (reads_of c) follows.name) (known follows.name) reported) follows.read

  -- this is due at a point near what was taken, or at the end
  abbrev PartOf : Left → List ℕ → Type 0
  PartOf left due = ((upto : ℕ) × IsNearTaken (log_from left (reads_of c) follows.name) (left_of s.files_after follows.name) upto
      × IsDueUpto follows.watch (log_from left (reads_of c) follows.name) upto due)
      ⊎ ((left_of s.files_after follows.name ≡ Some []) × IsDueOfAll follows.watch (log_from left (reads_of c) follows.name) due)

  module _ (left : Left) (passed : PassFrom nothing (files_from left (reads_of c)) follows.known) where
    due_upto : (taken : ℕ) (due : List ℕ) → IsDueUpto follows.watch (log_from left (reads_of c) follows.name) taken due → IsDue c left (Point.upto taken) due
    due_upto taken due is_due = record {
      known = follows.known;
      pass = passed;
      name = follows.name;
      log = follows.log;
      watch = follows.watch;
      follows = follows.watches;
      tells = is_due;
    }

    answers_as : (outcome : Outcome) → LogTells follows.watch follows.name (log_from left (reads_of c) follows.name) (length c.files) outcome
        → IsOutcome c left outcome
    answers_as outcome tells =
        gives_job (JobGives left c) (files_from left (reads_of c)) nothing follows.known 0 outcome passed
        (λ w e.
        let count = texts_count left [] c.files in
        let whole : length c.files ≡ w = omega (arith, e, count) in
        task_follows_log (λ name. log_from left (reads_of c) name) c.task follows.name follows.known follows.watch w outcome follows.log follows.watches
        (subst (λ (n : ℕ). LogTells follows.watch follows.name (log_from left (reads_of c) follows.name) n outcome) whole tells))

    whole_outcome : (due : List ℕ) → IsDueOfAll follows.watch (log_from left (reads_of c) follows.name) due
        → IsOutcome c left (done due (suc (length c.files)))
    whole_outcome due is = answers_as (done due (suc (length c.files))) (inl (record { short = is.short; out = due; tells = is.tells; gives = refl }))

    -- a point at which this was due
    point_of : (due : List ℕ) → PartOf left due → (point : Point) × IsDue c left point due
    point_of due (inl (upto, near, is)) = (Point.upto upto, due_upto upto due is)
    point_of due (inr (none, is)) = (Point.end, (done due (suc (length c.files)), whole_outcome due is, refl))

  prefix_all : (due : List ℕ) → WritesAll s.out s.out_after due → WritesPrefix s.out s.out_after due
  prefix_all due w = (length due, omega arith, subst (λ (l : List ℕ). WritesAll s.out s.out_after l) (sym (take_whole due)) w)

  -- all files were read whole, where the log was
  all_read : IfSome (left_of follows.now follows.name) (λ log. left_of s.files_after follows.name ≡ Some [])
      → ReadsTo (suc (length c.files)) (file_words c) s.files s.files_after
  all_read none =
      let all = unwrap_or (left_of follows.now follows.name) [] in
      let each = ReadsEach-next s.files follows.now s.files_after (names c.files) follows.name all follows.read follows.ends.only.others
      (takes (left_of follows.now follows.name) (left_of s.files_after follows.name) none) in
      let count = length-append (names c.files) (follows.name ∷ []) in
      let judged = length-map c.files (λ (file : Role × List ℕ). file.1) in
      let names_count = ap length names_are in
      subst (λ (n : ℕ). ReadsTo n (file_words c) s.files s.files_after) (omega (arith, count, judged, names_count))
      (reads_all s.files s.files_after (file_words c) (subst (ReadsEach s.files s.files_after) (sym names_are) each))
    where
      takes : (a b : Option (List ℕ)) → IfSome a (λ log. b ≡ Some []) → TakesAll a b (unwrap_or a [])
      takes None b none = tt
      takes (Some log) b none = (refl, none)

  -- ---- the clauses, by what is wrong

  abbrev Wrong : Option Fault → Type 0
  Wrong e = GoesWrong follows.name follows.now s.files_after s.out s.out_after e

  abbrev TellsIt : Option Fault → Type 0
  TellsIt e = IfSome (left_of follows.now follows.name) (λ log. TellsLog follows.watch log (left_of s.files_after follows.name) s.out s.out_after e)

  -- the fault names the log
  named : (f : List ℕ → Fault) (other : List ℕ) → other ≡ follows.name → TakesLine s.err s.err_after (fault_line_text (Some (f other)))
      → TakesLine s.err s.err_after (fault_line_text (Some (f follows.name)))
  named f other e says = subst (λ (n : List ℕ). TakesLine s.err s.err_after (fault_line_text (Some (f n)))) e says

  answer_by : (e : Option Fault) → Wrong e → TellsIt e → TakesLine s.err s.err_after (fault_line_text e) → OnAnswer (ending e) (WhereReported s.files (Answers c (ending e) s))
  answer_by None wrong tells says =
      if_some2 s.files.left _ _ _ (λ left passed is. record {
        outcome = done is.due (suc (length c.files));
        is = whole_outcome left passed is.due is.is_due;
        status_is = refl;
        output = is.written;
        line = says;
        read = all_read (if_some (left_of follows.now follows.name) _ _ (λ log whole. whole.none) tells);
      }) follows.passed (in_log _ tells)
  answer_by (Some (faults.LimitBytes other)) wrong tells says =
      if_some2 s.files.left _ _ _ (λ left passed is. record {
        outcome = done_with is.due (faults.LimitBytes follows.name) (length c.files);
        is = answers_as left passed (done_with is.due (faults.LimitBytes follows.name) (length c.files))
            (inr (record { long = is.long; out = is.due; tells = is.tells; gives = refl }));
        status_is = refl;
        output = is.written;
        line = named (λ n. faults.LimitBytes n) other wrong says;
        read = read_judged;
      }) follows.passed (in_log _ tells)
  answer_by (Some (faults.ReadFault other)) wrong tells says = tt
  answer_by (Some faults.WriteFault) wrong tells says = tt
  answer_by (Some faults.Memory) wrong tells says = tt
  answer_by (Some fault) wrong tells says = absurd wrong

  prefix_by : (e : Option Fault) → Wrong e → TellsIt e → WritesDue c s
  prefix_by None wrong tells =
      if_some2 s.files.left _ _ _ (λ left passed is. (
        Point.end,
        is.due,
        (done is.due (suc (length c.files)), whole_outcome left passed is.due is.is_due, refl),
        prefix_all is.due is.written,
      )) follows.passed (in_log _ tells)
  prefix_by (Some (faults.LimitBytes other)) wrong tells =
      if_some2 s.files.left _ _ _ (λ left passed is. (
        Point.end,
        is.due,
        (
          done_with is.due (faults.LimitBytes follows.name) (length c.files),
          answers_as left passed (done_with is.due (faults.LimitBytes follows.name) (length c.files))
              (inr (record { long = is.long; out = is.due; tells = is.tells; gives = refl })),
          refl,
        ),
        prefix_all is.due is.written,
      )) follows.passed (in_log _ tells)
  prefix_by (Some (faults.ReadFault other)) wrong tells =
      if_some2 s.files.left _ _ _ (λ left passed is.
      (Point.upto (length is.prefix), is.due, due_upto left passed (length is.prefix) is.due is.is_due, prefix_all is.due is.written)) follows.passed (in_log _ tells)
  prefix_by (Some faults.WriteFault) wrong tells =
      if_some2 s.files.left _ _ _ (λ left passed is.
      let (point, is_due) = point_of left passed is.part.0 is.part.1 in (point, is.part.0, is_due, is.part.2)) follows.passed (in_log _ tells)
  prefix_by (Some faults.Memory) wrong tells =
      if_some2 s.files.left _ _ _ (λ left passed is.
      (Point.upto is.upto, is.due, due_upto left passed is.upto is.due is.is_due, prefix_all is.due is.written)) follows.passed (in_log _ tells)
  prefix_by (Some fault) wrong tells = absurd wrong

  quiet_by : (e : Option Fault) → Wrong e → KeepsQuiet c (ending e) s
  quiet_by None wrong = tt
  quiet_by (Some (faults.LimitBytes other)) wrong = inr has_come
  quiet_by (Some (faults.ReadFault other)) wrong = inr has_come
  quiet_by (Some faults.WriteFault) wrong = tt
  quiet_by (Some faults.Memory) wrong = inr has_come
  quiet_by (Some fault) wrong = absurd wrong

  names_by : (e : Option Fault) → Wrong e → NamesFileWord c e
  names_by None wrong = tt
  names_by (Some (faults.LimitBytes other)) wrong = subst (Contains (file_words c)) (sym wrong) among
  names_by (Some (faults.ReadFault other)) wrong = subst (Contains (file_words c)) (sym wrong.0) among
  names_by (Some faults.WriteFault) wrong = tt
  names_by (Some faults.Memory) wrong = tt
  names_by (Some fault) wrong = absurd wrong

  some_file : file_words c ≢ []
  some_file none = let (a, b) = no_more_names (names c.files) (sym none ∙ names_are) in b
    where
      no_more_names : (xs : List (List ℕ)) → [] ≡ xs ++ follows.name ∷ [] → ⊥ × ⊥
      no_more_names [] e = let none : ⊥ = some_name follows.name [] (sym e) in (none, none)
      no_more_names (x ∷ xs) e = let none : ⊥ = some_name x (xs ++ follows.name ∷ []) (sym e) in (none, none)

  ends_by : (e : Option Fault) → Wrong e → MayEnd c (ending e)
  ends_by None wrong = inl (doing, tt)
  ends_by (Some (faults.LimitBytes other)) wrong = inl (doing, some_file)
  ends_by (Some (faults.ReadFault other)) wrong = inl (doing, some_file)
  ends_by (Some faults.WriteFault) wrong = inl (doing, tt)
  ends_by (Some faults.Memory) wrong = inl (doing, tt)
  ends_by (Some fault) wrong = absurd wrong

  -- ---- a read of the log failed

  -- what was taken of the log's name, and what is due then
  taken_of : (left : Left) → left_of s.files follows.name ≡ Some (contents left [] follows.name) → (prefix rest : List ℕ)
      → log_from left (reads_of c) follows.name ≡ prefix ++ rest → left_of s.files_after follows.name ≡ Some rest
      → (taken : ℕ) × HasTaken follows.name taken s left × (length prefix ≤ taken)
      × ((due : List ℕ) → IsDueUpto follows.watch (log_from left (reads_of c) follows.name) (length prefix) due
      → IsDueUpto follows.watch (log_from left (reads_of c) follows.name) taken due)
  taken_of left before prefix rest log_is after =
      by_test (list_any (λ other. bytes_eq other follows.name) (names c.files)) refl
    where
      by_test : (b : Bool) → list_any (λ other. bytes_eq other follows.name) (names c.files) ≡ b
          → (taken : ℕ) × HasTaken follows.name taken s left × (length prefix ≤ taken)
          × ((due : List ℕ) → IsDueUpto follows.watch (log_from left (reads_of c) follows.name) (length prefix) due
          → IsDueUpto follows.watch (log_from left (reads_of c) follows.name) taken due)
      by_test true e =
          let all = contents left [] follows.name in
          let none : log_from left (reads_of c) follows.name ≡ [] = ap (λ (b : Bool). cond b [] all) e in
          let prefix_none = none_before prefix rest (sym none ∙ log_is) in
          let rest_none = (no_more prefix rest (sym none ∙ log_is)).1 in
          let cut : (n : ℕ) → take n (log_from left (reads_of c) follows.name) ≡ [] = λ n. take_none n (log_from left (reads_of c) follows.name) none in (
            length all,
            record {
              within = omega arith;
              rest = [];
              before = before ∙ ap (λ (l : List ℕ). Some l) (sym (take_whole all) ∙ sym (append-nil (take (length all) all)));
              after = after ∙ ap (λ (l : List ℕ). Some l) rest_none;
            },
            omega (arith, prefix_none),
            λ due is_due. subst (λ (l : List ℕ). PrefixTells follows.watch l due) (cut (min (length prefix) log_limit) ∙ sym (cut (min (length all) log_limit))) is_due,
          )
      by_test false e =
          let all = contents left [] follows.name in
          let whole : log_from left (reads_of c) follows.name ≡ all = ap (λ (b : Bool). cond b [] all) e in
          let parts : all ≡ prefix ++ rest = sym whole ∙ log_is in
          let size = ap length parts in
          let sum = length-append prefix rest in
          let first : take (length prefix) all ≡ prefix = ap (take (length prefix)) parts ∙ take_prefix prefix rest in (
            length prefix,
            record {
              within = omega (arith, size, sum);
              rest = rest;
              before = before ∙ ap (λ (l : List ℕ). Some l) (parts ∙ ap (λ (l : List ℕ). l ++ rest) (sym first));
              after = after;
            },
            omega arith,
            λ due is_due. is_due,
          )

  -- what was left of each name at first
  left_at_first : WhereReported s.files (λ left. (name : List ℕ) → left_of s.files name ≡ Some (contents left [] name))
  left_at_first = ReadsEach-nil s.files

  -- the judged files have passed, and this was left of each name at first
  abbrev Begun : Left → Type 0
  Begun left = PassFrom nothing (files_from left (reads_of c)) follows.known × ((name : List ℕ) → left_of s.files name ≡ Some (contents left [] name))

  begun : WhereReported s.files Begun
  begun = if_some2 s.files.left _ _ Begun (λ left passed known. (passed, known)) follows.passed left_at_first

  all_written : TellsIt (Some (faults.ReadFault follows.name)) → WhereReported s.files (WritesAllDue c follows.name s)
  all_written tells =
      if_some2 s.files.left Begun _ _ (λ left both is.
      let (taken, has_taken, low, is_due) = taken_of left (both.1 follows.name) is.prefix is.rest is.log_is is.left_is in record {
        taken = taken;
        has_taken = has_taken;
        due = is.due;
        is_due = due_upto left both.0 taken is.due (is_due is.due is.is_due);
        written = is.written;
      }) begun (in_log _ tells)

  blames_read : Wrong (Some (faults.ReadFault follows.name)) → TellsIt (Some (faults.ReadFault follows.name))
      → TakesLine s.err s.err_after (fault_line_text (Some (faults.ReadFault follows.name))) → BlamesRead c s
  blames_read wrong tells says = record {
    place = length c.files;
    name = follows.name;
    is =
        let judged = length-map c.files (λ (file : Role × List ℕ). file.1) in
        subst (λ (n : ℕ). slice_get (file_words c) n ≡ Some follows.name) judged
        (ap (λ (ns : List (List ℕ)). slice_get ns (length (names c.files))) names_are ∙ at_prefix (names c.files) [] follows.name);
    failed = ReadFailed-after s.files follows.now s.files_after follows.name follows.counts wrong.1;
    read = read_judged;
    says = says;
    passed = if_some s.files.left _ _ (λ left said. (
      follows.known,
      subst (λ (fs : List (Role × List ℕ)). PassFrom nothing (with_texts left [] fs) follows.known) (sym (take_whole c.files)) said,
    )) follows.passed;
    written = record {
      judged = λ before. absurd (omega (arith, before));
      log = λ beyond. all_written tells;
    };
  }

  -- ---- a write failed

  -- no judged file has the log's name
  log_alone : (left : Left) → (¬ Contains (names c.files) follows.name) → log_from left (reads_of c) follows.name ≡ contents left [] follows.name
  log_alone left not = by_test (list_any (λ other. bytes_eq other follows.name) (names c.files)) refl
    where
      by_test : (b : Bool) → list_any (λ other. bytes_eq other follows.name) (names c.files) ≡ b
          → log_from left (reads_of c) follows.name ≡ contents left [] follows.name
      by_test true e = absurd (not (any_contains (names c.files) follows.name e))
      by_test false e = ap (λ (b : Bool). cond b [] (contents left [] follows.name)) e

  near_here : (left : Left) → Begun left → (upto taken : ℕ) → IsNearTaken (log_from left (reads_of c) follows.name) (left_of s.files_after follows.name) upto
      → (¬ Contains (names c.files) follows.name) → HasTaken follows.name taken s left → taken ≤ upto + ahead_limit
  near_here left both upto taken near alone has =
      let all_of = contents left [] follows.name in
      let bytes = same_some all_of (take taken all_of ++ has.rest) (sym (both.1 follows.name) ∙ has.before) in
      let size = length-take-le taken all_of has.within in
      let low = near (take taken all_of) has.rest (log_alone left alone ∙ bytes) has.after in
      omega (arith, size, low)

  near_point : (left : Left) → Begun left → (upto : ℕ) → IsNearTaken (log_from left (reads_of c) follows.name) (left_of s.files_after follows.name) upto
      → IsNearPoint c (Point.upto upto) s left
  near_point left both upto near = λ other taken log alone has.
      let name : other ≡ follows.name = one_log other follows.name (sym follows.log ∙ log) in
      near_here left both upto taken near (subst (λ (n : List ℕ). ¬ Contains (names c.files) n) name alone)
      (subst (λ (n : List ℕ). HasTaken n taken s left) name has)

  end_here : (left : Left) → Begun left → left_of s.files_after follows.name ≡ Some [] → (taken : ℕ) → HasTaken follows.name taken s left
      → taken ≡ length (contents left [] follows.name)
  end_here left both none taken has =
      let all_of = contents left [] follows.name in
      let bytes = same_some all_of (take taken all_of ++ has.rest) (sym (both.1 follows.name) ∙ has.before) in
      let rest : has.rest ≡ [] = same_some has.rest [] (sym has.after ∙ none) in
      let size = length-take-le taken all_of has.within in
      let whole = ap length bytes in
      let parts = length-append (take taken all_of) has.rest in
      let no_rest = ap length rest in
      omega (arith, size, whole, parts, no_rest)

  end_point : (left : Left) → Begun left → left_of s.files_after follows.name ≡ Some [] → IsNearPoint c Point.end s left
  end_point left both none = λ other taken log alone has.
      let name : other ≡ follows.name = one_log other follows.name (sym follows.log ∙ log) in
      subst (λ (n : List ℕ). taken ≡ length (contents left [] n)) (sym name)
      (end_here left both none taken (subst (λ (n : List ℕ). HasTaken n taken s left) name has))

  -- a prefix of this was written, which was due at a point past the start
  part_due : (left : Left) → Begun left → (due : List ℕ) → PartOf left due → WritesPrefix s.out s.out_after due → WritesPastStart c s left
  part_due left both due (inl (upto, near, is)) prefix =
      (Point.upto upto, tt, near_point left both upto near, (due, due_upto left both.0 upto due is, prefix))
  part_due left both due (inr (none, is)) prefix =
      (Point.end, tt, end_point left both none, (due, (done due (suc (length c.files)), whole_outcome left both.0 due is, refl), prefix))

  -- what is due by the clause is due by the watch
  due_here : (left : Left) → PassFrom nothing (files_from left (reads_of c)) follows.known → (upto : ℕ) (due : List ℕ) → IsDue c left (Point.upto upto) due
      → IsDueUpto follows.watch (log_from left (reads_of c) follows.name) upto due
  due_here left passed upto due reported =
      let sound = pass_sound nothing (files_from left (reads_of c)) reported.known tt reported.pass in
      let known : reported.known ≡ follows.known = pass_is_one nothing (files_from left (reads_of c)) reported.known follows.known tt reported.pass passed in
      let watch : reported.watch ≡ follows.watch =
      watch_one c.task c.range (reads_of c) law follows.known reported.watch follows.watch (subst (λ (k : Known). IsWatch c k reported.watch) known reported.follows) follows.watches in
      let name : reported.name ≡ follows.name = one_log reported.name follows.name (sym follows.log ∙ reported.log) in
      subst (λ (n : List ℕ). PrefixTells follows.watch (take (min upto log_limit) (log_from left (reads_of c) n)) due) name
      (subst (λ (w : Watch). PrefixTells w (take (min upto log_limit) (log_from left (reads_of c) reported.name)) due) watch reported.tells)

  not_far : TellsIt (Some faults.WriteFault) → WhereReported s.files (ReadsNotFarAhead c s)
  not_far tells =
      if_some2 s.files.left Begun _ _ (λ left both is other log alone some.
      let name : other ≡ follows.name = one_log other follows.name (sym follows.log ∙ log) in
      subst (λ (n : List ℕ). IsNotFarAhead c n s left) (sym name)
      (λ upto taken due written has is_due all less.
      let all_of = contents left [] follows.name in
      let alone_here = subst (λ (n : List ℕ). ¬ Contains (names c.files) n) name alone in
      let bytes = same_some all_of (take taken all_of ++ has.rest) (sym (both.1 follows.name) ∙ has.before) in
      let size = length-take-le taken all_of has.within in
      let near = is.near some upto (take taken all_of) has.rest due written (log_alone left alone_here ∙ bytes) has.after
      (due_here left both.0 upto due is_due) all less in
      omega (arith, size, near)))
      begun (in_log _ tells)

  blames_write : Wrong (Some faults.WriteFault) → TellsIt (Some faults.WriteFault) → TakesLine s.err s.err_after (fault_line_text (Some faults.WriteFault))
      → BlamesWrite c s
  blames_write wrong tells says = record {
    failed = wrong;
    says = says;
    read = has_read;
    passed = has_passed;
    due = if_some2 s.files.left Begun _ _ (λ left both is. part_due left both is.part.0 is.part.1 is.part.2) begun (in_log _ tells);
    ahead = not_far tells;
  }

  -- ---- memory ran out

  -- the run has come to the log
  abbrev Come : Left → Type 0
  Come left = Begun left × (left_of follows.now follows.name ≡ Some (log_from left (reads_of c) follows.name))

  come : WhereReported s.files Come
  come = if_some2 s.files.left Begun _ Come (λ left both known. (both, known follows.name)) begun follows.read

  stops_in_log : TellsIt (Some faults.Memory) → WhereReported s.files (StopsInLog c s)
  stops_in_log tells =
      if_some2 s.files.left Come _ _ (λ left here is.
      let (prefix, came) = follows.ends.only.prefix in
      let (rest, log_is, after) =
      consumed (left_of follows.now follows.name) (left_of s.files_after follows.name) (log_from left (reads_of c) follows.name) prefix here.1 came in
      let (taken, has_taken, low, same_due) = taken_of left (here.0.1 follows.name) prefix rest log_is after in
      let within = is.within prefix rest log_is after in record {
        name = follows.name;
        log = follows.log;
        taken = taken;
        has_taken = has_taken;
        upto = is.upto;
        within = omega (arith, low, within);
        due = is.due;
        is_due = due_upto left here.0.0 is.upto is.due is.is_due;
        written = is.written;
      }) come (in_log _ tells)

  fault_by : (e : Option Fault) → Wrong e → TellsIt e → TakesLine s.err s.err_after (fault_line_text e) → Blames c (ending e) s
  fault_by None wrong tells says = tt
  fault_by (Some (faults.LimitBytes other)) wrong tells says = tt
  fault_by (Some (faults.ReadFault other)) wrong tells says =
      let here = subst (λ (n : List ℕ). Wrong (Some (faults.ReadFault n))) wrong.0 wrong in
      let reported = subst (λ (n : List ℕ). TellsIt (Some (faults.ReadFault n))) wrong.0 tells in
      blames_read here reported (named (λ n. faults.ReadFault n) other wrong.0 says)
  fault_by (Some faults.WriteFault) wrong tells says = blames_write wrong tells says
  fault_by (Some faults.Memory) wrong tells says = inr (stops_in_log tells)
  fault_by (Some fault) wrong tells says = absurd wrong

  finds_by : (e : Option Fault) → Wrong e → TellsIt e → Finds c (ending e) s
  finds_by None wrong tells =
      if_some2 s.files.left _ _ _ (λ left passed is. (
        follows.known,
        passed,
        task_finds_log left (λ name. log_from left (reads_of c) name) c.task c.range (reads_of c) law follows.range follows.name follows.known follows.watch is.due s
            follows.log passed follows.watches is.is_due.tells is.written,
      )) follows.passed (in_log _ tells)
  finds_by (Some (faults.LimitBytes other)) wrong tells = tt
  finds_by (Some (faults.ReadFault other)) wrong tells = tt
  finds_by (Some faults.WriteFault) wrong tells = tt
  finds_by (Some faults.Memory) wrong tells = tt
  finds_by (Some fault) wrong tells = absurd wrong

  -- ---- the clauses

  pub answer : TakesLine s.err s.err_after (fault_line_text end) → OnAnswer (ending end) (WhereReported s.files (Answers c (ending end) s))
  answer says = answer_by end follows.ends.wrong follows.ends.tells says

  pub prefix : WritesDue c s
  prefix = prefix_by end follows.ends.wrong follows.ends.tells

  pub quiet : KeepsQuiet c (ending end) s
  quiet = quiet_by end follows.ends.wrong

  pub names_word : NamesFileWord c end
  names_word = names_by end follows.ends.wrong

  pub ends : MayEnd c (ending end)
  ends = ends_by end follows.ends.wrong

  pub order : ReadsTo (length c.files) (file_words c) s.files s.files_after
  order = read_judged

  pub fault : TakesLine s.err s.err_after (fault_line_text end) → Blames c (ending end) s
  fault says = fault_by end follows.ends.wrong follows.ends.tells says

  pub finds : Finds c (ending end) s
  finds = finds_by end follows.ends.wrong follows.ends.tells

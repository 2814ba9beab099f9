-- What each way out of a step along a log leaves.
use Rattle.std.proofs.Common.{◌≡◌, ◌∙◌, ◌≤◌, ◌<◌, ◌+◌, ℕ, min, Bool, true, false, List, [], ◌∷◌, ◌++◌, append_assoc, append-nil, length, take, refl, sym, ap, subst, inl, inr, arith, Ok}
use Rattle.std.specs.Prelude.{Option, None, Some, IfSome, IsSome}
use Rattle.std.specs.Option.{option_map}
use Rattle.std.specs.Io.KnownBytes.{Appends, Consumes}
use Rattle.std.proofs.KnownBytes.{Appends-trans, Consumes-nil, Consumes-trans, Keeps-refl}
use Rattle.std.proofs.lemmas.Bool.{cases_lt}
use Rattle.std.proofs.lemmas.List.{length-append}
use Rattle.cb_io.specs.declared.whole.ReadStop.{ReadStop}
use Rattle.cb_io.specs.declared.whole.ReadStop.TheVariants as reads
use Rattle.cb_io.specs.LineReading.{Reading, unread, coming, ReadsSame, IsOneLine, ReadingGoesOn, RunsOver, StopsWithin}
use Rattle.cb_io.specs.Outside.{FilesReport, SinkReport, left_of, ReadFailed, WritesAll, WritesPrefix, WriteFailed}
use Rattle.cb_io.proofs.Reported.{NoCountFalls-trans, ReadFailed-after, KeepsOthers-trans, WritesPrefix-second}
use Rattle.cb_report.specs.declared.fault.Fault.TheVariants as faults
use Rattle.cb_alarm.specs.Lines.{log_line_limit}
use Rattle.cb_outcome.specs.LogJobs.{Watch, PrefixTells, log_limit}
use Rattle.cb_session.specs.State.{State}
use Rattle.cb_log_commands.specs.Following.{IsDueUpto, IsReportedInPart, EndsLog}
use Rattle.cb_file_kinds.specs.Kinds.{ReadsOnly}
use Rattle.cb_log_commands.specs.Stops.{stop_of_read, fault_of_log_stop}
use Rattle.cb_log_commands.specs.Telling.{joined, ComesNext, ComesLast, LogComes, PieceSays, StopSays, ReadsLog, HasReported, Going, GoesOrEnds, OpensLog}
use Rattle.cb_file_kinds.proofs.Chain.{if_some}
use Rattle.cb_log_commands.proofs.Lines.{one_none}
use Rattle.cb_log_commands.proofs.Further.{reported_is_due, due_is_short}

-- ---- what is reported

pub there : {X : Type 0} (o : Option X) (P : X → Type 0) (x : X) → o ≡ Some x → IfSome o P → P x
there {X} o P x e reported = subst (λ (v : Option X). IfSome v P) e reported

reads_on : (a b c : FilesReport) (name : List ℕ) → ReadsOnly name a b → ReadsOnly name b c → ReadsOnly name a c
reads_on a b c name one two = record {
  prefix = (one.prefix.0 ++ two.prefix.0, Consumes-trans (left_of a name) (left_of b name) (left_of c name) one.prefix.0 two.prefix.0 one.prefix.1 two.prefix.1);
  others = KeepsOthers-trans a b c name one.others two.others;
  counts = NoCountFalls-trans a b c one.counts two.counts;
}

write_failed_after : (a b c : SinkReport) → a.faults ≤ b.faults → WriteFailed b c → WriteFailed a c
write_failed_after a b c le rose = omega (arith, le, rose)

-- what is left of the file, where these bytes come
pub left_there : (kept : List ℕ) (left : Option (List ℕ)) (rest : List ℕ) → option_map (λ l. kept ++ l) left ≡ Some rest
    → (l : List ℕ) × (left ≡ Some l) × (rest ≡ kept ++ l)
left_there kept None rest e = cc
left_there kept (Some l) rest e = (l, refl, there_is rest (kept ++ l) e)
  where
    there_is : (x y : List ℕ) → Some y ≡ Some x → x ≡ y
    there_is x y e = cc

-- of these bytes a prefix came, and these are left
consumed : (a b : Option (List ℕ)) (left rest prefix : List ℕ) → a ≡ Some left → b ≡ Some rest → Consumes a b prefix → left ≡ prefix ++ rest
consumed a b left rest prefix e h came =
    subst (λ (o : Option (List ℕ)). Consumes (Some left) o prefix) h (subst (λ (o : Option (List ℕ)). Consumes o b prefix) e came)

pub no_more : (xs ys : List ℕ) → [] ≡ xs ++ ys → ys ≡ []
no_more [] ys e = sym e
no_more (x ∷ xs) ys e = cc

some_is_one : (x y : List ℕ) → Some x ≡ Some y → x ≡ y
some_is_one x y e = cc

-- at least all that was reported was written, where the output is reported
written_all : (taken a b : Option (List ℕ)) (written reported text : List ℕ) → IsSome taken → Appends taken a reported → Appends a b text → Appends taken b written
    → length reported ≤ length written
written_all None a b written reported text some one two all = let none : ⊥ = cc in absurd none
written_all (Some xs) None b written reported text some one two all = absurd one
written_all (Some xs) (Some ys) None written reported text some one two all = absurd two
written_all (Some xs) (Some ys) (Some zs) written reported text some one two all =
    let p = ap length one in
    let q = ap length two in
    let r = ap length all in
    let a = length-append xs reported in
    let b = length-append ys text in
    let c = length-append xs written in
    omega (arith, p, q, r, a, b, c)

-- a fact of what an option holds, where it holds something
pub reported_by : {X : Type 0} (o : Option X) (P : X → Type 0) → ((x : X) → o ≡ Some x → P x) → IfSome o P
reported_by None P f = tt
reported_by (Some x) P f = f x refl

-- nothing was read of it
pub reads_nothing : (files : FilesReport) (name : List ℕ) → ReadsOnly name files files
reads_nothing files name = record {
  prefix = ([], Consumes-nil (left_of files name));
  others = λ other not. Keeps-refl (left_of files other);
  counts = λ other. omega arith;
}

-- a log at its beginning
pub begins : (watch : Watch) (session : State) (out out_now : SinkReport) (files : FilesReport) (name : List ℕ) → OpensLog watch session out out_now
    → Going watch files out (unread name log_line_limit log_limit) files out_now session
begins watch session out out_now files name opens = record {
  regular = opens.regular;
  only = reads_nothing files name;
  faults = opens.faults;
  reported = reported_by (left_of files name) _ (λ log is. record {
    rest = log;
    comes = ap (λ (o : Option (List ℕ)). option_map (λ l. [] ++ l) o) is;
    reported = watch.opening;
    is_at = record {
      lines = [];
      one_each = λ k d low. absurd (omega (arith, low));
      log_is = refl;
      number_is = refl;
      given_is = refl;
      within = omega arith;
      entries = [];
      come = tt;
      events = [];
      gives = refl;
      reported_is = sym (append-nil watch.opening);
      mode = opens.mode;
      window = opens.window;
      stands = opens.stands;
    };
    written = opens.written;
  });
}

module _ (watch : Watch) (now : FilesReport) (out : SinkReport) (reader : Reading) (files : FilesReport) (out_now : SinkReport) (session : State)
    (going : Going watch now out reader files out_now session) (reads_log : ReadsLog reader) (reader' : Reading) (files' : FilesReport) (session' : State)
    (same : ReadsSame reader reader') (only : ReadsOnly reader.name files files') where
  only_all : ReadsOnly reader'.name now files'
  only_all = subst (λ (n : List ℕ). ReadsOnly n now files') (sym same.name) (reads_on now files files' reader.name going.only only)

  -- a fact of the log where it is reported
  at_log : (P : List ℕ → Type 0) → ((log : List ℕ) → HasReported watch log reader files session out out_now → P log) → IfSome (left_of now reader'.name) P
  at_log P f = subst (λ (n : List ℕ). IfSome (left_of now n) P) (sym same.name) (if_some (left_of now reader.name) _ P f going.reported)

  -- ---- a read was refused

  too_much : IfSome (coming reader files) (RunsOver reader files') → EndsLog watch reader'.name now files' out out_now (Some (faults.LimitBytes reader'.name))
  too_much says = record {
    only = only_all;
    wrong = refl;
    tells = at_log _ (λ log has.
        let over = there (coming reader files) (RunsOver reader files') has.rest has.comes says in
        let full = over.full in
        let limit = reads_log.total_most in
        let due = reported_is_due watch going.regular log reader.number reader.given has.rest session has.reported has.is_at over.before over.beyond over.are over.one in
        let is : min (reader.given + length over.before) log_limit ≡ log_limit = omega (arith, full, limit) in
        let more = some_bytes over.beyond over.more in
        let size = log_size log has over.before over.beyond over.are in record {
          long = omega (arith, full, limit, more, size);
          due = has.reported;
          tells = subst (λ (n : ℕ). PrefixTells watch (take n log) has.reported) is due;
          written = has.written;
        });
  }
    where
      some_bytes : (bytes : List ℕ) → (bytes ≡ [] → ⊥) → 0 < length bytes
      some_bytes [] some = absurd (some refl)
      some_bytes (b ∷ bs) some = omega arith

      log_size : (log : List ℕ) (has : HasReported watch log reader files session out out_now) (before beyond : List ℕ) → has.rest ≡ before ++ beyond
          → length log ≡ reader.given + length before + length beyond
      log_size log has before beyond are =
          let a = ap length has.is_at.log_is in
          let b = length-append (joined has.is_at.lines) has.rest in
          let c = ap length are in
          let d = length-append before beyond in
          let g = has.is_at.given_is in
          omega (arith, a, b, c, d, g)

  read_fault : IfSome (coming reader files) (StopsWithin reader files') → ReadFailed files files' reader.name
      → EndsLog watch reader'.name now files' out out_now (Some (faults.ReadFault reader'.name))
  read_fault says failed = record {
    only = only_all;
    wrong = (refl, subst (λ (n : List ℕ). ReadFailed now files' n) (sym same.name) (ReadFailed-after now files files' reader.name going.only.counts failed));
    tells = at_log _ (λ log has.
        let stops = there (coming reader files) (StopsWithin reader files') has.rest has.comes says in
        let due = reported_is_due watch going.regular log reader.number reader.given has.rest session has.reported has.is_at stops.prefix stops.rest stops.loses.are stops.one in
        let size = length-append (joined has.is_at.lines) stops.prefix in
        let given = has.is_at.given_is in record {
          prefix = joined has.is_at.lines ++ stops.prefix;
          rest = stops.rest;
          log_is =
              has.is_at.log_is
              ∙ (ap (λ (v : List ℕ). joined has.is_at.lines ++ v) stops.loses.are ∙ sym (append_assoc (joined has.is_at.lines) stops.prefix stops.rest));
          left_is = subst (λ (n : List ℕ). left_of files' n ≡ Some stops.rest) (sym same.name) stops.loses.left;
          due = has.reported;
          is_due = subst (λ (n : ℕ). IsDueUpto watch log n has.reported) (omega (arith, size, given)) due;
          written = has.written;
        });
  }

  -- what was given is no farther than what was taken
  taken_here : (log : List ℕ) → HasReported watch log reader files session out out_now → (prefix rest : List ℕ) → log ≡ prefix ++ rest
      → left_of files' reader'.name ≡ Some rest → reader.given + 0 ≤ length prefix
  taken_here log has prefix rest log_is left_is =
      let (left, is, are) = left_there reader.kept (left_of files reader.name) has.rest has.comes in
      let left_here : left_of files' reader.name ≡ Some rest = subst (λ (n : List ℕ). left_of files' n ≡ Some rest) same.name left_is in
      let parts = consumed (left_of files reader.name) (left_of files' reader.name) left rest only.prefix.0 is left_here only.prefix.1 in
      let a = ap length has.is_at.log_is in
      let b = length-append (joined has.is_at.lines) has.rest in
      let d = has.is_at.given_is in
      let e = ap length are in
      let f = length-append reader.kept left in
      let g = ap length parts in
      let h = length-append only.prefix.0 rest in
      let k = ap length log_is in
      let l = length-append prefix rest in
      omega (arith, a, b, d, e, f, g, h, k, l)

  pub no_memory : EndsLog watch reader'.name now files' out out_now (Some faults.Memory)
  no_memory = record {
    only = only_all;
    wrong = tt;
    tells = at_log _ (λ log has. record {
      upto = reader.given + 0;
      within = λ prefix rest log_is left_is. taken_here log has prefix rest log_is left_is;
      due = has.reported;
      is_due = reported_is_due watch going.regular log reader.number reader.given has.rest session has.reported has.is_at [] has.rest refl one_none;
      written = has.written;
    });
  }

  -- what is wrong where the next piece is refused
  pub refused : (stop : ReadStop) → IfSome (coming reader files) (StopSays reader files' stop)
      → (stop ≡ reads.ReadFault → ReadFailed files files' reader.name)
      → EndsLog watch reader'.name now files' out out_now (Some (fault_of_log_stop reader'.name (stop_of_read stop)))
  refused reads.TooMuch says failed = too_much says
  refused reads.ReadFault says failed = read_fault says (failed refl)
  refused reads.NoMemory says failed = no_memory

  -- ---- the next piece came

  module _ (text : List ℕ) (says : IfSome (coming reader files) (PieceSays reader reader' files' session session' text)) (out' : SinkReport)
      (counts : out_now.faults ≤ out'.faults) where
    piece : (log : List ℕ) (has : HasReported watch log reader files session out out_now) → LogComes reader'.ended watch log reader reader' files' session' has.reported text has.rest
    piece log has = there (coming reader files) (PieceSays reader reader' files' session session' text) has.rest has.comes says watch log has.reported going.regular has.is_at

    faults_all : out.faults ≤ out'.faults
    faults_all = let before = going.faults in omega (arith, before, counts)

    -- and was written
    module _ (written : WritesAll out_now out' text) where
      written_all_of : (log : List ℕ) (has : HasReported watch log reader files session out out_now) → WritesAll out out' (has.reported ++ text)
      written_all_of log has = Appends-trans out.taken out_now.taken out'.taken has.reported text has.written written

      goes_on : reader'.ended ≡ false → Going watch now out reader' files' out' session'
      goes_on e = record {
        regular = going.regular;
        only = only_all;
        faults = faults_all;
        reported = at_log _ (λ log has.
            let next : ComesNext watch log reader reader' files' session' has.reported text has.rest =
            subst (λ (b : Bool). LogComes b watch log reader reader' files' session' has.reported text has.rest) e (piece log has) in record {
              rest = next.rest;
              comes = next.comes;
              reported = has.reported ++ text;
              is_at = next.is_at;
              written = written_all_of log has;
            });
      }

      ends : reader'.ended ≡ true → EndsLog watch reader'.name now files' out out' None
      ends e = record {
        only = only_all;
        wrong = tt;
        tells = at_log _ (λ log has.
            let last : ComesLast watch log reader reader' files' has.reported text has.rest =
            subst (λ (b : Bool). LogComes b watch log reader reader' files' session' has.reported text has.rest) e (piece log has) in
            let (left, is, are) = left_there reader'.kept (left_of files' reader'.name) [] last.comes in record {
              due = has.reported ++ text;
              is_due = record { short = last.within; tells = last.tells };
              none = is ∙ ap (λ (l : List ℕ). Some l) (no_more reader'.kept left are);
              written = written_all_of log has;
            });
      }

      pub delivered : GoesOrEnds watch now out reader' files' out' session' (Ok reader'.ended)
      delivered = by_end reader'.ended refl
        where
          by_end : (b : Bool) → reader'.ended ≡ b → GoesOrEnds watch now out reader' files' out' session' (Ok b)
          by_end false e = goes_on e
          by_end true e = ends e

    -- or its write failed
    module _ (goes : ReadingGoesOn reader') (prefix : WritesPrefix out_now out' text) (failed : WriteFailed out_now out') where
      -- not many bytes were taken after those that were given
      next_given : (log : List ℕ) (has : HasReported watch log reader files session out out_now)
          → ComesNext watch log reader reader' files' session' has.reported text has.rest → (taken rest : List ℕ) → log ≡ taken ++ rest
          → left_of files' reader'.name ≡ Some rest → length taken ≤ reader'.given + 0 + 65536
      next_given log has next taken rest log_is left_is =
          let (left, is, are) = left_there reader'.kept (left_of files' reader'.name) next.rest next.comes in
          let same_rest : left ≡ rest = some_is_one left rest (sym is ∙ left_is) in
          let a = ap length next.is_at.log_is in
          let b = length-append (joined next.is_at.lines) next.rest in
          let c = ap length are in
          let d = length-append reader'.kept left in
          let e = ap length log_is in
          let f = length-append taken rest in
          let g = ap length same_rest in
          let h = next.is_at.given_is in
          let few = goes.few in
          omega (arith, a, b, c, d, e, f, g, h, few)

      part : (log : List ℕ) (has : HasReported watch log reader files session out out_now) (b : Bool) → LogComes b watch log reader reader' files' session' has.reported text has.rest
          → IsReportedInPart watch log (left_of files' reader'.name) out out'
      part log has false next = (
        has.reported ++ text,
        inl (
          reader'.given + 0,
          λ taken rest log_is left_is. next_given log has next taken rest log_is left_is,
          reported_is_due watch going.regular log reader'.number reader'.given next.rest session' (has.reported ++ text) next.is_at [] next.rest refl one_none,
        ),
        WritesPrefix-second out out_now out' has.reported text has.written prefix,
      )
      part log has true last =
          let (left, is, are) = left_there reader'.kept (left_of files' reader'.name) [] last.comes in (
            has.reported ++ text,
            inr (is ∙ ap (λ (l : List ℕ). Some l) (no_more reader'.kept left are), record { short = last.within; tells = last.tells }),
            WritesPrefix-second out out_now out' has.reported text has.written prefix,
          )

      -- no more is due than was reported, where these bytes of the next line are after the point
      module _ (log : List ℕ) (has : HasReported watch log reader files session out out_now) (some : IsSome out.taken) (upto : ℕ) (due written : List ℕ)
          (is_due : IsDueUpto watch log upto due) (all : WritesAll out out' written) (less : length written < length due) where
        not_early : (line rest : List ℕ) → has.rest ≡ line ++ rest → IsOneLine line → upto ≤ reader.given + length line → ⊥
        not_early line rest are one early =
            let short = due_is_short watch going.regular log reader.number reader.given has.rest session has.reported has.is_at line rest are one upto due early is_due in
            let reported = written_all out.taken out_now.taken out'.taken written has.reported (take prefix.0 text) some has.written prefix.2 all in
            omega (arith, short, reported, less)

        log_size : length log ≡ reader.given + length has.rest
        log_size =
            let a = ap length has.is_at.log_is in
            let b = length-append (joined has.is_at.lines) has.rest in
            let g = has.is_at.given_is in
            omega (arith, a, b, g)

        next_near : ComesNext watch log reader reader' files' session' has.reported text has.rest → (taken rest : List ℕ) → log ≡ taken ++ rest
            → left_of files' reader'.name ≡ Some rest → length taken ≤ upto + 65536
        next_near next taken rest log_is left_is =
            let a = ap length next.is_at.log_is in
            let b = length-append (joined next.is_at.lines) next.rest in
            let h = next.is_at.given_is in
            let k = ap length next.begin.are in
            let l = length-append next.line (10 ∷ next.rest) in
            let size = log_size in
            let near = next_given log has next taken rest log_is left_is in
            let line_end : reader'.given ≡ reader.given + length next.line + 1 = omega (arith, a, b, h, k, l, size) in
            elim (cases_lt upto reader'.given) [
              | inl early ↦ absurd (not_early next.line (10 ∷ next.rest) next.begin.are next.begin.one (omega (arith, early, line_end)))
              | inr past ↦ omega (arith, past, near)
            ]

        last_near : ComesLast watch log reader reader' files' has.reported text has.rest → (taken rest : List ℕ) → log ≡ taken ++ rest → length taken ≤ upto + 65536
        last_near last taken rest log_is =
            let e = ap length log_is in
            let f = length-append taken rest in
            let size = log_size in
            elim (cases_lt upto (length log)) [
              | inl early ↦ absurd (not_early has.rest [] (sym (append-nil has.rest)) last.one (omega (arith, early, size)))
              | inr past ↦ omega (arith, past, e, f)
            ]

        near_by : (b : Bool) → LogComes b watch log reader reader' files' session' has.reported text has.rest → (taken rest : List ℕ) → log ≡ taken ++ rest
            → left_of files' reader'.name ≡ Some rest → length taken ≤ upto + 65536
        near_by false next taken rest log_is left_is = next_near next taken rest log_is left_is
        near_by true last taken rest log_is left_is = last_near last taken rest log_is

      pub cut_short : EndsLog watch reader'.name now files' out out' (Some faults.WriteFault)
      cut_short = record {
        only = only_all;
        wrong = write_failed_after out out_now out' going.faults failed;
        tells = at_log _ (λ log has. record {
          part = part log has reader'.ended (piece log has);
          near = λ some upto taken rest due written log_is left_is is_due all less.
              near_by log has some upto due written is_due all less reader'.ended (piece log has) taken rest log_is left_is;
        });
      }

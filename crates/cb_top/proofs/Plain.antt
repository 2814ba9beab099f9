-- What the end of a run is like that a refused file or a job brings about: it is no fault of a read or a write, nor out of memory.
use Rattle.std.proofs.Common.{◌≡◌, ◌≢◌, ℕ, List, [], refl, sym, subst, inl, inr}
use Rattle.std.specs.Prelude.{Option, Some}
use Rattle.std.specs.List.{Contains}
use Rattle.cb_io.specs.Outside.{WritesAll}
use Rattle.cb_report.specs.Faults.{status_of, ending}
use Rattle.cb_report.specs.FaultTexts.{fault_line_text}
use Rattle.cb_report.specs.Said.{TakesLine}
use Rattle.cb_outcome.specs.Roles.{Role}
use Rattle.cb_report.specs.declared.fault.Fault.{Fault}
use Rattle.cb_report.specs.declared.fault.Fault.TheVariants as faults
use Rattle.cb_report.specs.declared.status.Status.{Status}
use Rattle.cb_report.specs.declared.status.Status.TheVariants as statuses
use Rattle.cb_outcome.specs.Outcome.{Outcome}
use Rattle.cb_outcome.specs.Judged.{Known, File, HasFault, RefusesFile}
use Rattle.cb_outcome.specs.Contents.{Left, Reads, HasRole, log_from}
use Rattle.cb_outcome.specs.Command.{Command, IsDoing, reads_of, file_words, TaskFinds}
use Rattle.cb_outcome.specs.Ends.{FilesMayEnd, MayEnd}
use Rattle.cb_outcome.specs.Seen.{Seen}
use Rattle.cb_outcome.specs.Clauses.{KeepsQuiet, NamesFileWord, Blames}
use Rattle.cb_outcome.specs.Finds.{OnOutput, Finds}
use Rattle.cb_file_kinds.specs.Ending.{MakesOutput}
use Rattle.cb_file_kinds.proofs.Chain.{if_some}
use Rattle.cb_outcome.proofs.Ended.{TaskEnds, well, wrong, task_ends, task_shown}
use Rattle.cb_outcome.proofs.Lawful.{IsOwnStatus, NamesNoFile, IsQuietAt, IsLawful}
use Rattle.cb_outcome.proofs.Owned.{IsStatusFor, text_fault, has_own}

-- what is said of the end of a run with this fault, if there is one
pub record IsPlain (c : Command) (fault : Option Fault) (s : Seen) : Type 0 where
  pub names : NamesFileWord c fault
  pub ends : MayEnd c (ending fault)
  pub blames : Blames c (ending fault) s
  pub finds : Finds c (ending fault) s

-- a fault of a text is of a status that its role allows
role_ends : (reads : Reads) (role : Role) (status : Status) → HasRole reads role → IsStatusFor role status → FilesMayEnd reads status
role_ends reads Role.model status has e = subst (FilesMayEnd reads) (sym e) has
role_ends reads Role.topology status has e = subst (FilesMayEnd reads) (sym e) (inl has)
role_ends reads Role.symptoms status has e = subst (FilesMayEnd reads) (sym e) (inr (inl has))
role_ends reads (Role.certificate wanted) status has e = subst (FilesMayEnd reads) (sym e) (inl (wanted, has))
role_ends reads Role.levels status has e = subst (FilesMayEnd reads) (sym e) (inr has)
role_ends reads Role.script status has e = subst (FilesMayEnd reads) (sym e) (inr (inr has))

module _ (c : Command) (s : Seen) where
  nameless : (fault : Fault) → NamesNoFile fault → NamesFileWord c (Some fault)
  nameless (faults.LimitBytes name) none = absurd none
  nameless (faults.LimitLine name line) none = absurd none
  nameless (faults.ReadFault name) none = absurd none
  nameless fault none = tt

  blames_none : (status : Status) → IsOwnStatus status → Blames c status s
  blames_none statuses.ReadFault own = absurd own
  blames_none statuses.WriteFault own = absurd own
  blames_none statuses.Memory own = absurd own
  blames_none status own = tt

  finds_none : (status : Status) → IsOwnStatus status → FilesMayEnd (reads_of c) status → Finds c status s
  finds_none statuses.Done own ends = absurd own
  finds_none statuses.Distance own ends = absurd ends
  finds_none status own ends = tt

  file_plain : IsDoing c.task → (role : Role) (known : Known) (text : List ℕ) (fault : Fault) → HasRole (reads_of c) role → HasFault role known text fault
      → IsPlain c (Some fault) s
  file_plain doing role known text fault has h =
      let own = has_own role known text fault h in
      let ends = role_ends (reads_of c) role (status_of fault) has (text_fault role known text fault h).status in record {
        names = nameless fault own.nameless;
        ends = inl (doing, ends);
        blames = blames_none (status_of fault) own.status;
        finds = finds_none (status_of fault) own.status ends;
      }

  pub refused_plain : IsDoing c.task → (known : Known) (file : File) (fault : Fault) → HasRole (reads_of c) file.role
      → Contains (file_words c) file.name → file_words c ≢ [] → RefusesFile known file fault → IsPlain c (Some fault) s
  refused_plain doing known file fault role name some (inl past) =
      subst (λ (f : Fault). IsPlain c (Some f) s) (sym past.is) (record { names = name; ends = inl (doing, some); blames = tt; finds = tt })
  refused_plain doing known file fault role name some (inr (inl past)) =
      subst (λ (f : Fault). IsPlain c (Some f) s) (sym past.is) (record { names = name; ends = inl (doing, some); blames = tt; finds = tt })
  refused_plain doing known file fault role name some (inr (inr has)) = file_plain doing file.role known file.text fault role has.has

-- ---- a job that is done

-- the same, with what is written
pub record IsFit (c : Command) (fault : Option Fault) (s : Seen) : Type 0 where
  pub plain : IsPlain c fault s
  pub quiet : KeepsQuiet c (ending fault) s

module _ (c : Command) (law : IsLawful c) (doing : IsDoing c.task) (s : Seen) (bytes : List ℕ) (fault : Option Fault)
    (makes : MakesOutput c s.files s.files_after bytes fault) (written : WritesAll s.out s.out_after bytes)
    (says : TakesLine s.err s.err_after (fault_line_text fault)) where
  abbrev job_outcome : Outcome
  job_outcome = record { out = bytes; fault = fault; whole = 0 }

  -- what is shown of the job, by what is reported of the files
  found_at : (status : Status)
      → ((left : Left) → OnOutput status (TaskFinds (λ name. log_from left (reads_of c) name) c.task makes.known status s)) → Finds c status s
  found_at statuses.Done shown = if_some s.files.left _ _ (λ left pass. (makes.known, pass, shown left)) makes.said
  found_at statuses.Distance shown = if_some s.files.left _ _ (λ left pass. (makes.known, pass, shown left)) makes.said
  found_at status shown = tt

  found : Finds c (ending fault) s
  found = found_at (ending fault) (λ left.
      task_shown (λ name. log_from left (reads_of c) name) c.task c.range (reads_of c) law makes.known 0 job_outcome s makes.alone (makes.gives left 0) written says)

  nothing_written : bytes ≡ [] → WritesAll s.out s.out_after []
  nothing_written empty = subst (λ (l : List ℕ). WritesAll s.out s.out_after l) empty written

  quiet_at : (status : Status) → IsOwnStatus status → IsQuietAt status bytes → KeepsQuiet c status s
  quiet_at statuses.Done own empty = tt
  quiet_at statuses.Distance own empty = tt
  quiet_at statuses.WriteFault own empty = tt
  quiet_at statuses.Limit own empty = inl (nothing_written empty)
  quiet_at statuses.ReadFault own empty = inl (nothing_written empty)
  quiet_at statuses.Memory own empty = inl (nothing_written empty)
  quiet_at status own empty = nothing_written empty

  fit_by : TaskEnds c.task job_outcome → IsFit c fault s
  fit_by (well none) = subst (λ (f : Option Fault). IsFit c f s) (sym none) (record {
    plain = record {
      names = tt;
      ends = inl (doing, tt);
      blames = tt;
      finds = subst (λ (f : Option Fault). Finds c (ending f) s) none found;
    };
    quiet = tt;
  })
  fit_by (wrong why is has own empty) = subst (λ (f : Option Fault). IsFit c f s) (sym is) (record {
    plain = record {
      names = nameless c s why own.nameless;
      ends = inr (why, has, refl);
      blames = blames_none c s (status_of why) own.status;
      finds = subst (λ (f : Option Fault). Finds c (ending f) s) is found;
    };
    quiet = quiet_at (status_of why) own.status empty;
  })

  pub fit : IsFit c fault s
  fit = fit_by (task_ends (λ name. log_from [] (reads_of c) name) c.task c.range (reads_of c) law makes.known 0 job_outcome makes.alone (makes.gives [] 0))

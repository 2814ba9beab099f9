-- A history that goes on line by line.
use Rattle.std.proofs.Common.{◌≡◌, ◌∙◌, ℕ, List, [], ◌∷◌, ◌++◌, refl, sym, ap, subst, Ok, Err}
use Rattle.std.specs.Prelude.{Option, None, Some}
use Rattle.std.specs.List.{flat_map}
use Rattle.std.proofs.lemmas.List.{append_assoc, append-nil}
use Rattle.std.proofs.lemmas.List.Concat.{flat_map-append}
use Rattle.cb_history.specs.Histories.{History, edited, undone}
use Rattle.cb_history.specs.Records.{RecordsLeadTo, StandFor}
use Rattle.cb_history.specs.Scripts.{report_of_undo, Rewinds}
use Rattle.cb_history.specs.declared.moves.Move.TheVariants.{Make, Undo}
use Rattle.cb_history.specs.declared.script.LineReport.{LineReport}
use Rattle.cb_history.specs.declared.script.LineReport.TheVariants.{Refused, Nothing}
use Rattle.cb_history.specs.declared.script.ScriptLine.{ScriptLine}
use Rattle.cb_network.specs.declared.edit.Edit.{Edit}
use Rattle.cb_network.specs.declared.edit.EditRefusal.{EditRefusal}
use Rattle.cb_network.specs.Edits.{IsAfter, IsRefused}
use Rattle.cb_network.specs.Topology.{Topology}
use Rattle.cb_report.specs.RewoundText.{report_text}
use Rattle.cb_network_commands.specs.Rewinding.{reports_in, MovesOn, RunsOn}

-- ---- one move

module _ (depth : ℕ) (h : History) (line : ℕ) where
  pub edit_moves : (edit : Edit) (t u : Topology) (old new : List (List Edit)) → IsAfter t edit (Ok u) → StandFor t old h
      → StandFor u new (edited depth h u) → MovesOn depth h line (Make edit) None u new
  edit_moves edit t u old new after stands stands' = record {
    next = edited depth h u;
    runs = (Ok u, subst (λ (x : Topology). IsAfter x edit (Ok u)) stands.now after, refl, refl);
    stands = stands';
  }

  pub refused_moves : (edit : Edit) (why : EditRefusal) (t : Topology) (records : List (List Edit)) → IsRefused t edit why → StandFor t records h
      → MovesOn depth h line (Make edit) (Some (Refused line why)) t records
  refused_moves edit why t records refused stands = record {
    next = h;
    runs = (Err why, subst (λ (x : Topology). IsAfter x edit (Err why)) stands.now refused, refl, refl);
    stands = stands;
  }

  -- where there is a record, there is an earlier topology
  none_reported : (t : Topology) (edits : List Edit) (rest : List (List Edit)) (before : List Topology) → RecordsLeadTo t (edits ∷ rest) before
      → [] ≡ report_of_undo line before
  none_reported t edits rest [] back = absurd back
  none_reported t edits rest (u ∷ before) back = refl

  pub undo_moves : (t u : Topology) (old new rest : List (List Edit)) (edits : List Edit) → old ≡ edits ∷ rest → StandFor t old h → StandFor u new (undone h)
      → MovesOn depth h line Undo None u new
  undo_moves t u old new rest edits some stands stands' = record {
    next = undone h;
    runs = (none_reported t edits rest h.before (subst (λ (r : List (List Edit)). RecordsLeadTo t r h.before) some stands.back), refl);
    stands = stands';
  }

-- where there are none, nothing is taken back
nothing_left : (depth line : ℕ) (t now : Topology) (before : List Topology) → t ≡ now → RecordsLeadTo t [] before
    → MovesOn depth (record { now = now; before = before }) line Undo (Some (Nothing line)) t []
nothing_left depth line t now [] same back =
    record { next = record { now = now; before = [] }; runs = (refl, refl); stands = record { now = same; back = tt } }
nothing_left depth line t now (u ∷ before) same back = absurd back

pub nothing_moves : (depth line : ℕ) (h : History) (t : Topology) (records : List (List Edit)) → records ≡ [] → StandFor t records h
    → MovesOn depth h line Undo (Some (Nothing line)) t records
nothing_moves depth line h t records none stands =
    subst (λ (r : List (List Edit)). MovesOn depth h line Undo (Some (Nothing line)) t r) (sym none)
    (nothing_left depth line t h.now h.before stands.now (subst (λ (r : List (List Edit)). RecordsLeadTo t r h.before) none stands.back))

-- ---- lines in order

-- a line that was run
line_runs : (depth : ℕ) (h : History) (line : ScriptLine) (report : Option LineReport) (network : Topology) (records : List (List Edit)) (before after : List ℕ)
    → MovesOn depth h line.line line.what report network records → after ≡ before ++ flat_map report_text (reports_in report)
    → RunsOn depth h (line ∷ []) before after network records
line_runs depth h line report network records before after moves text = record {
  reports = reports_in report;
  last = moves.next;
  rewinds = (reports_in report, [], moves.next, moves.runs, sym (append-nil (reports_in report)), (refl, refl));
  stands = moves.stands;
  text = text;
}

-- with a report of it
pub line_reported : (depth : ℕ) (h : History) (line : ScriptLine) (report : LineReport) (network : Topology) (records : List (List Edit)) (before after : List ℕ)
    → MovesOn depth h line.line line.what (Some report) network records → after ≡ before ++ report_text report → RunsOn depth h (line ∷ []) before after network records
line_reported depth h line report network records before after moves text =
    line_runs depth h line (Some report) network records before after moves (text ∙ ap (λ (xs : List ℕ). before ++ xs) (sym (append-nil (report_text report))))

-- and without one
pub line_quiet : (depth : ℕ) (h : History) (line : ScriptLine) (network : Topology) (records : List (List Edit)) (text : List ℕ)
    → MovesOn depth h line.line line.what None network records → RunsOn depth h (line ∷ []) text text network records
line_quiet depth h line network records text moves = line_runs depth h line None network records text text moves (sym (append-nil text))

rewinds_more : (depth : ℕ) (h mid last : History) (lines more : List ScriptLine) (a b : List LineReport) → Rewinds depth h lines a mid
    → Rewinds depth mid more b last → Rewinds depth h (lines ++ more) (a ++ b) last
rewinds_more depth h mid last [] more a b (none, same) rest =
    subst (λ (xs : List LineReport). Rewinds depth h more (xs ++ b) last) (sym none) (subst (λ (x : History). Rewinds depth x more b last) (sym same) rest)
rewinds_more depth h mid last (line ∷ lines) more a b (first, later, next, runs, is, rest) after =
    (first, later ++ b, next, runs, ap (λ (xs : List LineReport). xs ++ b) is ∙ append_assoc first later b, rewinds_more depth next mid last lines more later b rest after)

-- no line yet
pub runs_none : (depth : ℕ) (h : History) (text : List ℕ) (network : Topology) (records : List (List Edit)) → StandFor network records h
    → RunsOn depth h [] text text network records
runs_none depth h text network records stands =
    record { reports = []; last = h; rewinds = (refl, refl); stands = stands; text = sym (append-nil text) }

-- further lines, from the history that those before them leave
pub runs_more : (depth : ℕ) (h : History) (lines more : List ScriptLine) (before mid after : List ℕ) (t u : Topology) (old new : List (List Edit))
    → (ran : RunsOn depth h lines before mid t old) → RunsOn depth ran.last more mid after u new
    → RunsOn depth h (lines ++ more) before after u new
runs_more depth h lines more before mid after t u old new ran next = record {
  reports = ran.reports ++ next.reports;
  last = next.last;
  rewinds = rewinds_more depth h ran.last next.last lines more ran.reports next.reports ran.rewinds next.rewinds;
  stands = next.stands;
  text = next.text ∙ (ap (λ (xs : List ℕ). xs ++ flat_map report_text next.reports) ran.text
      ∙ (append_assoc before (flat_map report_text ran.reports) (flat_map report_text next.reports)
      ∙ ap (λ (xs : List ℕ). before ++ xs) (sym (flat_map-append report_text ran.reports next.reports))));
}

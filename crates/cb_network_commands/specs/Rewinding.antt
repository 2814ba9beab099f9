-- A history that a script goes on from.
use Rattle.std.specs.Prelude.{◌≡◌, ◌++◌, ℕ, List, [], ◌∷◌, Option, None, Some}
use Rattle.std.specs.List.{flat_map}
use Rattle.cb_history.specs.Histories.{History}
use Rattle.cb_history.specs.Records.{StandFor}
use Rattle.cb_history.specs.Scripts.{RunsLine, Rewinds}
use Rattle.cb_history.specs.declared.moves.Move.{Move}
use Rattle.cb_history.specs.declared.script.LineReport.{LineReport}
use Rattle.cb_history.specs.declared.script.ScriptLine.{ScriptLine}
use Rattle.cb_network.specs.declared.edit.Edit.{Edit}
use Rattle.cb_network.specs.Topology.{Topology}
use Rattle.cb_report.specs.RewoundText.{report_text}

-- a report, if there is one
abbrev pub reports_in : Option LineReport → List LineReport
reports_in None = []
reports_in (Some report) = report ∷ []

-- the line of this number leads from the history to one that the topology and the records stand for, and this is reported of it
pub record MovesOn (depth : ℕ) (h : History) (line : ℕ) (move : Move) (report : Option LineReport) (network : Topology) (records : List (List Edit)) : Type 0 where
  pub next : History
  pub runs : RunsLine depth h line move (reports_in report) next
  pub stands : StandFor network records next

-- so do the lines of a script, and what is reported of them stands after the text that was there
pub record RunsOn (depth : ℕ) (h : History) (script : List ScriptLine) (before after : List ℕ) (network : Topology) (records : List (List Edit)) : Type 0 where
  pub reports : List LineReport
  pub last : History
  pub rewinds : Rewinds depth h script reports last
  pub stands : StandFor network records last
  pub text : after ≡ before ++ flat_map report_text reports

-- what is reported of a script, and the topology that it leaves
pub record IsRewound (depth : ℕ) (h : History) (script : List ScriptLine) (text : List ℕ) (t : Topology) : Type 0 where
  pub reports : List LineReport
  pub last : History
  pub rewinds : Rewinds depth h script reports last
  pub now : t ≡ last.now
  pub text_is : text ≡ flat_map report_text reports

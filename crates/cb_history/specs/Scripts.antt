-- What a script of edits and undos does, and what it reports.
use Rattle.std.specs.Prelude.{◌≡◌, ◌++◌, ℕ, List, [], ◌∷◌, Result, Ok, Err}
use Rattle.cb_network.specs.declared.edit.EditRefusal.{EditRefusal}
use Rattle.cb_network.specs.Topology.{Topology}
use Rattle.cb_network.specs.Edits.{IsAfter}
use Rattle.cb_history.specs.declared.moves.Move.{Move}
use Rattle.cb_history.specs.declared.moves.Move.TheVariants.{Make, Undo}
use Rattle.cb_history.specs.declared.script.ScriptLine.{ScriptLine}
use Rattle.cb_history.specs.declared.script.LineReport.{LineReport}
use Rattle.cb_history.specs.declared.script.LineReport.TheVariants.{Refused, Nothing}
use Rattle.cb_history.specs.Histories.{History, edited_by, undone}

-- nothing is reported of an accepted edit, and of a refused one the reason
abbrev pub report_of_edit : ℕ → Result Topology EditRefusal → List LineReport
report_of_edit line (Ok u) = []
report_of_edit line (Err why) = Refused line why ∷ []

-- an undo is reported where there is no earlier topology
abbrev pub report_of_undo : ℕ → List Topology → List LineReport
report_of_undo line [] = Nothing line ∷ []
report_of_undo line (t ∷ before) = []

-- what one line does to a history, and what it reports
abbrev pub RunsLine : ℕ → History → ℕ → Move → List LineReport → History → Type 0
RunsLine depth h line (Make edit) reports next = (result : Result Topology EditRefusal) × IsAfter h.now edit result
    × (reports ≡ report_of_edit line result) × (next ≡ edited_by depth h result)
RunsLine depth h line Undo reports next = (reports ≡ report_of_undo line h.before) × (next ≡ undone h)

-- what the lines do in order, and what they report
abbrev pub Rewinds : ℕ → History → List ScriptLine → List LineReport → History → Type 0
Rewinds depth h [] reports last = (reports ≡ []) × (h ≡ last)
Rewinds depth h (line ∷ lines) reports last = (first : List LineReport) × (later : List LineReport) × (next : History)
    × RunsLine depth h line.line line.what first next × (reports ≡ first ++ later) × Rewinds depth next lines later last

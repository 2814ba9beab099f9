-- The command `levels`: how far each node is from a problem that causes it, with proof.
use Rattle.std.specs.Prelude.{◌≡◌, ℕ, List}
use Rattle.cb_report.specs.declared.fault.Fault.{Fault}
use Rattle.cb_report.specs.declared.fault.Fault.TheVariants as faults
use Rattle.cb_report.specs.declared.status.Status.{Status}
use Rattle.cb_report.specs.declared.status.Status.TheVariants.{Done}
use Rattle.cb_outcome.specs.Outcome.{Outcome}
use Rattle.cb_outcome.specs.Judged.{Known, network}
use Rattle.cb_outcome.specs.Jobs.{LevelsGives}
use Rattle.cb_outcome.specs.Prints.{PrintsLevels}
use Rattle.cb_outcome.specs.Costs.{CountsLevels}
use Rattle.cb_outcome.specs.Reading.{WhereReported}
use Rattle.cb_outcome.specs.Seen.{Seen}
use Rattle.cb_outcome.specs.Command.{Command, Making, makes}
use Rattle.cb_outcome.specs.Commands.Matrix.{matrix_reads}

-- after a topology, the levels of the problem that the word names
abbrev pub LevelsAfter : List ℕ → Known → ℕ → Outcome → Type 0
LevelsAfter word (network t) whole outcome = LevelsGives t word whole outcome
LevelsAfter word known whole outcome = ⊥

-- no problem has this name
abbrev pub LevelsFaults : List ℕ → Fault → Type 0
LevelsFaults word fault = fault ≡ faults.NoProblem word

-- the output spells valid levels of the problem
abbrev pub LevelsFinds : List ℕ → Known → Status → Seen → Type 0
LevelsFinds word (network t) Done s = PrintsLevels t word s.out s.out_after
LevelsFinds word known status s = ⊥

-- its output is made before it is written
abbrev pub levels_making : List ℕ → Making
levels_making word = record { gives = LevelsAfter word; faults = LevelsFaults word; finds = LevelsFinds word }

-- the whole command, with the files of `matrix` and the word of a node; no more steps are counted than the problem that the word names causes nodes
abbrev pub levels : List ℕ → List ℕ → List ℕ → Command
levels model topology word = record {
  files = (matrix_reads model topology).judged;
  task = makes (levels_making word);
  range = Unit {0};
  counts = λ files after old new. WhereReported files (λ left. CountsLevels left (matrix_reads model topology) word old new);
}

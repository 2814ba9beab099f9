-- The command `grow`: a summary of a log that is made up.
use Rattle.std.specs.Prelude.{ℕ, []}
use Rattle.cb_outcome.specs.Command.{IsWithin, Command, Making, makes, FindsNothing}
use Rattle.cb_outcome.specs.Outcome.{Outcome}
use Rattle.cb_outcome.specs.Judged.{Known, nothing}
use Rattle.cb_outcome.specs.Grown.{HasMadeUpFault, GrowGives}
use Rattle.cb_outcome.specs.Costs.{CountsGrow}

-- of no file, the summary of what is made up
abbrev pub GrowAfter : ℕ → ℕ → Known → ℕ → Outcome → Type 0
GrowAfter sites start nothing whole outcome = GrowGives sites start whole outcome
GrowAfter sites start known whole outcome = ⊥

-- its output is made before it is written; what is made up may have a fault
abbrev pub grow_making : ℕ → ℕ → Making
grow_making sites start = record { gives = GrowAfter sites start; faults = HasMadeUpFault sites; finds = FindsNothing }

-- the whole command; no more steps are counted than the search of the topology costs, and then the edits of the log
abbrev pub grow : ℕ → ℕ → Command
grow sites start = record {
  files = [];
  task = makes (grow_making sites start);
  range = IsWithin 1 256 sites;
  counts = λ files after old new. CountsGrow sites start old new;
}

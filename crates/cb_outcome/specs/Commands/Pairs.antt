-- The command `pairs`: which group, or which two at once, fit the symptoms of a file.
use Rattle.std.specs.Prelude.{ℕ, List}
use Rattle.cb_report.specs.declared.fault.Fault.{Fault}
use Rattle.cb_report.specs.declared.fault.Fault.TheVariants as faults
use Rattle.cb_report.specs.declared.status.Status.{Status}
use Rattle.cb_report.specs.declared.status.Status.TheVariants.{Done}
use Rattle.cb_outcome.specs.Outcome.{Outcome}
use Rattle.cb_outcome.specs.Judged.{Known, raised}
use Rattle.cb_outcome.specs.Jobs.{PairsGives}
use Rattle.cb_outcome.specs.Prints.{PrintsFits}
use Rattle.cb_outcome.specs.Costs.{CountsSearch}
use Rattle.cb_outcome.specs.Reading.{WhereReported}
use Rattle.cb_outcome.specs.Seen.{Seen}
use Rattle.cb_outcome.specs.Command.{Command, Making, makes}
use Rattle.cb_outcome.specs.Commands.Burst.{burst_reads}

-- after a topology and the raised nodes, what fits them
abbrev pub PairsAfter : Known → ℕ → Outcome → Type 0
PairsAfter (raised t nodes) whole outcome = PairsGives t nodes whole outcome
PairsAfter known whole outcome = ⊥

-- there are too many groups
abbrev pub PairsFaults : Fault → Type 0
PairsFaults (faults.Groups groups) = Unit {0}
PairsFaults fault = ⊥

-- the output lists exactly the nearest guesses
abbrev pub PairsFinds : Known → Status → Seen → Type 0
PairsFinds (raised t nodes) Done s = PrintsFits t nodes s.out s.out_after
PairsFinds known status s = ⊥

-- its output is made before it is written
abbrev pub pairs_making : Making
pairs_making = record { gives = PairsAfter; faults = PairsFaults; finds = PairsFinds }

-- the whole command, with the files of `burst`; no more steps are counted than the search of the topology costs
abbrev pub pairs : List ℕ → List ℕ → List ℕ → Command
pairs model topology symptoms = record {
  files = (burst_reads model topology symptoms).judged;
  task = makes pairs_making;
  range = Unit {0};
  counts = λ files after old new. WhereReported files (λ left. CountsSearch left (burst_reads model topology symptoms) old new);
}

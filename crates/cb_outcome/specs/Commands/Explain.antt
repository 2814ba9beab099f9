-- The command `explain`: what causes the symptoms of a file, and how.
use Rattle.std.specs.Prelude.{ℕ, List}
use Rattle.cb_report.specs.declared.status.Status.{Status}
use Rattle.cb_report.specs.declared.status.Status.TheVariants.{Done}
use Rattle.cb_outcome.specs.Outcome.{Outcome}
use Rattle.cb_outcome.specs.Judged.{Known, raised}
use Rattle.cb_outcome.specs.Jobs.{ExplainGives}
use Rattle.cb_outcome.specs.Prints.{PrintsChains}
use Rattle.cb_outcome.specs.Costs.{CountsExplain}
use Rattle.cb_outcome.specs.Reading.{WhereReported}
use Rattle.cb_outcome.specs.Seen.{Seen}
use Rattle.cb_outcome.specs.Command.{Command, Making, makes}
use Rattle.cb_outcome.specs.Commands.Burst.{burst_reads}

-- after a topology and the raised nodes, what is found for them and why
abbrev pub ExplainAfter : Known → ℕ → Outcome → Type 0
ExplainAfter (raised t nodes) whole outcome = ExplainGives t nodes whole outcome
ExplainAfter known whole outcome = ⊥

-- the output lists exactly the nearest groups, with the chains of each
abbrev pub ExplainFinds : Known → Status → Seen → Type 0
ExplainFinds (raised t nodes) Done s = PrintsChains t nodes s.out s.out_after
ExplainFinds known status s = ⊥

-- its output is made before it is written
abbrev pub explain_making : Making
explain_making = record { gives = ExplainAfter; faults = λ fault. ⊥; finds = ExplainFinds }

-- the whole command, with the files of `burst`; no more steps are counted than the search of the topology costs, and then one search from each
-- problem of a listed group
abbrev pub explain : List ℕ → List ℕ → List ℕ → Command
explain model topology symptoms = record {
  files = (burst_reads model topology symptoms).judged;
  task = makes explain_making;
  range = Unit {0};
  counts = λ files after old new. WhereReported files (λ left. CountsExplain left (burst_reads model topology symptoms) old new);
}

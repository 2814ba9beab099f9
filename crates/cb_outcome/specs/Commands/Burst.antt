-- The command `burst`: what causes the symptoms of a file.
use Rattle.std.specs.Prelude.{ℕ, List, [], ◌∷◌}
use Rattle.cb_outcome.specs.Roles.{Role}
use Rattle.cb_report.specs.declared.status.Status.{Status}
use Rattle.cb_report.specs.declared.status.Status.TheVariants.{Done}
use Rattle.cb_outcome.specs.Outcome.{Outcome}
use Rattle.cb_outcome.specs.Judged.{Known, raised}
use Rattle.cb_outcome.specs.Jobs.{BurstGives}
use Rattle.cb_outcome.specs.Prints.{PrintsFinding}
use Rattle.cb_outcome.specs.Contents.{Reads}
use Rattle.cb_outcome.specs.Costs.{CountsSearch}
use Rattle.cb_outcome.specs.Reading.{WhereReported}
use Rattle.cb_outcome.specs.Seen.{Seen}
use Rattle.cb_outcome.specs.Command.{Command, Making, makes}

-- after a topology and the raised nodes, what is found for them
abbrev pub BurstAfter : Known → ℕ → Outcome → Type 0
BurstAfter (raised t nodes) whole outcome = BurstGives t nodes whole outcome
BurstAfter known whole outcome = ⊥

-- the output lists exactly the nearest groups
abbrev pub BurstFinds : Known → Status → Seen → Type 0
BurstFinds (raised t nodes) Done s = PrintsFinding t nodes s.out s.out_after
BurstFinds known status s = ⊥

-- its output is made before it is written
abbrev pub burst_making : Making
burst_making = record { gives = BurstAfter; faults = λ fault. ⊥; finds = BurstFinds }

-- its three files
abbrev pub burst_reads : List ℕ → List ℕ → List ℕ → Reads
burst_reads model topology symptoms =
    record { judged = (Role.model, model) ∷ (Role.topology, topology) ∷ (Role.symptoms, symptoms) ∷ []; logs = [] }

-- the whole command; no more steps are counted than the search of the topology costs
abbrev pub burst : List ℕ → List ℕ → List ℕ → Command
burst model topology symptoms = record {
  files = (burst_reads model topology symptoms).judged;
  task = makes burst_making;
  range = Unit {0};
  counts = λ files after old new. WhereReported files (λ left. CountsSearch left (burst_reads model topology symptoms) old new);
}

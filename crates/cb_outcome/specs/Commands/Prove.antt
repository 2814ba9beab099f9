-- The command `prove`: what levels show.
use Rattle.std.specs.Prelude.{ℕ, List, [], ◌∷◌}
use Rattle.cb_report.specs.declared.status.Status.{Status}
use Rattle.cb_report.specs.declared.status.Status.TheVariants.{Done}
use Rattle.cb_outcome.specs.Roles.{Role}
use Rattle.cb_outcome.specs.Outcome.{Outcome}
use Rattle.cb_outcome.specs.Judged.{Known, levelled}
use Rattle.cb_outcome.specs.Jobs.{ProveGives}
use Rattle.cb_outcome.specs.Prints.{PrintsProof}
use Rattle.cb_outcome.specs.Contents.{Reads}
use Rattle.cb_outcome.specs.Costs.{CountsProve}
use Rattle.cb_outcome.specs.Reading.{WhereReported}
use Rattle.cb_outcome.specs.Seen.{Seen}
use Rattle.cb_outcome.specs.Command.{Command, Making, makes}

-- after a topology and levels, what they show
abbrev pub ProveAfter : Known → ℕ → Outcome → Type 0
ProveAfter (levelled t levels) whole outcome = ProveGives t levels whole outcome
ProveAfter known whole outcome = ⊥

-- the levels list exactly what the printed problem causes, each node with its level
abbrev pub ProveFinds : Known → Status → Seen → Type 0
ProveFinds (levelled t levels) Done s = PrintsProof t levels s.out s.out_after
ProveFinds known status s = ⊥

-- its output is made before it is written
abbrev pub prove_making : Making
prove_making = record { gives = ProveAfter; faults = λ fault. ⊥; finds = ProveFinds }

-- its three files
abbrev pub prove_reads : List ℕ → List ℕ → List ℕ → Reads
prove_reads model topology levels =
    record { judged = (Role.model, model) ∷ (Role.topology, topology) ∷ (Role.levels, levels) ∷ []; logs = [] }

-- the whole command; no more steps are counted than the levels have entries
abbrev pub prove : List ℕ → List ℕ → List ℕ → Command
prove model topology levels = record {
  files = (prove_reads model topology levels).judged;
  task = makes prove_making;
  range = Unit {0};
  counts = λ files after old new. WhereReported files (λ left. CountsProve left (prove_reads model topology levels) old new);
}

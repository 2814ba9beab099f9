-- The command `rewind`: the matrix after the edits and undos of a script.
use Rattle.std.specs.Prelude.{ℕ, List, [], ◌∷◌}
use Rattle.cb_report.specs.declared.status.Status.{Status}
use Rattle.cb_report.specs.declared.status.Status.TheVariants.{Done}
use Rattle.cb_outcome.specs.Roles.{Role}
use Rattle.cb_outcome.specs.Outcome.{Outcome}
use Rattle.cb_outcome.specs.Judged.{Known, scripted}
use Rattle.cb_outcome.specs.Jobs.{RewindGives}
use Rattle.cb_outcome.specs.Prints.{PrintsRewound}
use Rattle.cb_outcome.specs.Contents.{Reads}
use Rattle.cb_outcome.specs.Costs.{CountsRewind}
use Rattle.cb_outcome.specs.Reading.{WhereReported}
use Rattle.cb_outcome.specs.Seen.{Seen}
use Rattle.cb_outcome.specs.Command.{IsWithin, Command, Making, makes}

-- after a topology and a script, what is reported of its lines, and the matrix of the topology that they leave
abbrev pub RewindAfter : ℕ → Known → ℕ → Outcome → Type 0
RewindAfter depth (scripted t script) whole outcome = RewindGives t script depth whole outcome
RewindAfter depth known whole outcome = ⊥

-- the matrix is that of the topology to which the edits and undos lead
abbrev pub RewindFinds : ℕ → Known → Status → Seen → Type 0
RewindFinds depth (scripted t script) Done s = PrintsRewound t script depth s.out s.out_after
RewindFinds depth known status s = ⊥

-- its output is made before it is written
abbrev pub rewind_making : ℕ → Making
rewind_making depth = record { gives = RewindAfter depth; faults = λ fault. ⊥; finds = RewindFinds depth }

-- its three files
abbrev pub rewind_reads : List ℕ → List ℕ → List ℕ → Reads
rewind_reads model topology script =
    record { judged = (Role.model, model) ∷ (Role.topology, topology) ∷ (Role.script, script) ∷ []; logs = [] }

-- the whole command; no more steps are counted than the search of the topology costs to which the edits and undos lead
abbrev pub rewind : List ℕ → List ℕ → List ℕ → ℕ → Command
rewind model topology script depth = record {
  files = (rewind_reads model topology script).judged;
  task = makes (rewind_making depth);
  range = IsWithin 1 1024 depth;
  counts = λ files after old new. WhereReported files (λ left. CountsRewind left (rewind_reads model topology script) depth old new);
}

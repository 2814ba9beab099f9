-- The command `matrix`: columns, groups and codes.
use Rattle.std.specs.Prelude.{ℕ, List, [], ◌∷◌}
use Rattle.cb_outcome.specs.Roles.{Role}
use Rattle.cb_outcome.specs.Outcome.{Outcome}
use Rattle.cb_outcome.specs.Judged.{Known, network}
use Rattle.cb_outcome.specs.Jobs.{MatrixGives}
use Rattle.cb_outcome.specs.Contents.{Reads}
use Rattle.cb_outcome.specs.Costs.{CountsSearch}
use Rattle.cb_outcome.specs.Reading.{WhereReported}
use Rattle.cb_outcome.specs.Command.{Command, Making, makes, FindsNothing}

-- after a topology, its matrix
abbrev pub MatrixAfter : Known → ℕ → Outcome → Type 0
MatrixAfter (network t) whole outcome = MatrixGives t whole outcome
MatrixAfter known whole outcome = ⊥

-- its output is made before it is written
abbrev pub matrix_making : Making
matrix_making = record { gives = MatrixAfter; faults = λ fault. ⊥; finds = FindsNothing }

-- its two files
abbrev pub matrix_reads : List ℕ → List ℕ → Reads
matrix_reads model topology = record { judged = (Role.model, model) ∷ (Role.topology, topology) ∷ []; logs = [] }

-- the whole command; no more steps are counted than the search of the topology costs
abbrev pub matrix : List ℕ → List ℕ → Command
matrix model topology = record {
  files = (matrix_reads model topology).judged;
  task = makes matrix_making;
  range = Unit {0};
  counts = λ files after old new. WhereReported files (λ left. CountsSearch left (matrix_reads model topology) old new);
}

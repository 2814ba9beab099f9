-- A topology with its matrix.
use Rattle.std.specs.Prelude.{◌≤◌, ◌+◌, length}
use Rattle.cb_network.specs.Sound.{problem_limit, symptom_limit}
use Rattle.cb_topo.specs.Numbered.{Numbered}
use Rattle.cb_matrix.specs.Matrix.{IsMatrixOf}
use Rattle.cb_matrix.specs.Parts.{Parts}

-- the topology with numbers, and the matrix
pub record SearchedParts : Type 0 where
  pub network : Numbered
  pub matrix : Parts

-- the matrix is that of the topology, with as few columns and groups as a topology has
pub record IsSmallMatrixOf (n : Numbered) (m : Parts) : Type 0 where
  pub is : IsMatrixOf n m
  pub few_columns : length m.columns ≤ symptom_limit
  pub few_groups : length m.groups ≤ problem_limit + 1

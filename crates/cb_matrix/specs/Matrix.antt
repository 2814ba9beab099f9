-- The matrix of a topology, by numbers of nodes.
use Rattle.std.specs.Prelude.{◌≡◌, List, map}
use Rattle.cb_finding.specs.Matrix.{IsMatrix}
use Rattle.cb_model.specs.declared.node.NodeName.{NodeName}
use Rattle.cb_topo.specs.Numbered.{Numbered, topology_of, AreNamed}
use Rattle.cb_matrix.specs.Parts.{Parts}

-- the columns and the groups are those of the topology, and so are the problems, each with its code
pub record IsMatrixOf (n : Numbered) (m : Parts) : Type 0 where
  pub columns : List NodeName
  pub columns_named : AreNamed n m.columns columns
  pub is : IsMatrix (topology_of n) columns m.groups
  pub problems_named : AreNamed n m.problems (map (λ p. p.name) is.problems)
  pub codes_are : m.codes ≡ map (λ p. p.code) is.problems

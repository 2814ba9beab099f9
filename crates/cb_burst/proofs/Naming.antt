-- The columns of a matrix by their names.
use Rattle.std.proofs.Common.{◌≡◌, List, length, sym, subst}
use Rattle.cb_model.specs.declared.node.NodeName.{NodeName}
use Rattle.cb_coding.specs.declared.group.Group.{Group}
use Rattle.cb_network.specs.Nodes.{AreColumns}
use Rattle.cb_network.proofs.One.{columns_are_one}
use Rattle.cb_finding.specs.Matrix.{IsMatrix}
use Rattle.cb_topo.specs.Numbered.{Numbered, topology_of, IsNodeNamed, AreNamed}
use Rattle.cb_matrix.specs.Matrix.{IsMatrixOf}
use Rattle.cb_matrix.specs.Parts.{Parts}
use Rattle.cb_matrix.proofs.Held.{length_zip}
use Rattle.cb_matrix.proofs.Matched.{names_are_one}

module _ (n : Numbered) (m : Parts) (is : IsMatrixOf n m) where
  -- the columns of the topology are those of the matrix
  pub columns_named : (columns : List NodeName) → AreColumns (topology_of n) columns → AreNamed n m.columns columns
  columns_named columns are = subst (AreNamed n m.columns) (columns_are_one (topology_of n) is.columns columns is.is.columns_are are) is.columns_named

  module _ (columns : List NodeName) (named : AreNamed n m.columns columns) where
    -- there is a name for each column
    pub as_many_names : length m.columns ≡ length columns
    as_many_names = length_zip (IsNodeNamed n) m.columns columns named

    -- with these names the groups of the matrix are those of the topology
    pub named_matrix : (groups : List Group) → groups ≡ m.groups → IsMatrix (topology_of n) columns groups
    named_matrix groups same =
        subst (λ (gs : List Group). IsMatrix (topology_of n) columns gs) (sym same)
        (subst (λ (cs : List NodeName). IsMatrix (topology_of n) cs m.groups) (names_are_one n m.columns is.columns columns is.columns_named named) is.is)

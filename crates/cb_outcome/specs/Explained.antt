-- Why a problem explains a column: the chains that `explain` prints.
use Rattle.std.specs.Prelude.{◌≡◌, List, Option}
use Rattle.std.specs.List.{AllZip, flat_map}
use Rattle.cb_model.specs.declared.node.NamedGroup.{NamedGroup}
use Rattle.cb_model.specs.declared.node.NodeName.{NodeName}
use Rattle.cb_network.specs.Topology.{Topology}
use Rattle.cb_chains.specs.Explained.{ExplainsColumns, chains_in}

-- these chains explain the members of a group: from each member in order, those to the columns in order
pub record ExplainsMembers (t : Topology) (columns : List NodeName) (members : List NodeName) (chains : List (List NodeName)) : Type 0 where
  pub found : List (List (Option (List NodeName)))
  pub each : AllZip (ExplainsColumns t columns) members found
  pub are : chains ≡ flat_map chains_in found

-- these lists of chains explain the groups, one list for each
abbrev pub ExplainsGroups : Topology → List NodeName → List NamedGroup → List (List (List NodeName)) → Type 0
ExplainsGroups t columns groups chains = AllZip (λ group. ExplainsMembers t columns group.members) groups chains

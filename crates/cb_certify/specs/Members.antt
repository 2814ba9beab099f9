-- Groups by their least members.
use Rattle.std.specs.Prelude.{◌≡◌, ◌<◌, ⊤, ℕ, List, Option, None, Some, slice_get}
use Rattle.cb_model.specs.declared.node.GroupName.TheVariants.{Quiet, Least}
use Rattle.cb_model.specs.declared.node.NodeName.{NodeName}
use Rattle.cb_model.specs.declared.node.NamedGroup.{NamedGroup}
use Rattle.cb_coding.specs.declared.book.Pair.{Pair}
use Rattle.cb_coding.specs.declared.group.Group.{Group}
use Rattle.cb_finding.specs.Finding.{IsCalled}
use Rattle.cb_network.specs.Nodes.{IsNodeOf}
use Rattle.cb_nodes.specs.declared.id.NodeId.{NodeId}
use Rattle.cb_topo.specs.Numbered.{Numbered, topology_of, IsNodeNamed, IsLiveNode}
use Rattle.cb_certify.specs.declared.shortfall.ClosePair.{ClosePair}

-- the least member of the group at a position
pub record IsLeastMember (groups : List NamedGroup) (place : ℕ) (node : NodeName) : Type 0 where
  pub group : NamedGroup
  pub at : slice_get groups place ≡ Some group
  pub first : slice_get group.members 0 ≡ Some node

abbrev pub HasLeastMember : List NamedGroup → ℕ → Type 0
HasLeastMember groups place = (node : NodeName) × IsLeastMember groups place node

-- the group at a position has a least member, which is a node of the topology
pub record HasLeastNode (n : Numbered) (groups : List NamedGroup) (place : ℕ) : Type 0 where
  pub node : NodeName
  pub least : IsLeastMember groups place node
  pub is_node : IsNodeOf (topology_of n) node

-- the number of the least member of the group at a position; the quiet one, which is the first, has none
abbrev pub IsMemberAt : Numbered → List NamedGroup → ℕ → Option NodeId → Type 0
IsMemberAt n groups place None = place ≡ 0
IsMemberAt n groups place (Some id) = (0 < place) × (node : NodeName) × IsLeastMember groups place node × IsNodeNamed n id node

-- the group at a position is called by the node of this number; the quiet one has none
abbrev pub IsCalledBy : Numbered → List Group → ℕ → Option NodeId → Type 0
IsCalledBy n groups place None = IsCalled groups place Quiet
IsCalledBy n groups place (Some id) = (node : NodeName) × IsNodeNamed n id node × IsCalled groups place (Least node)

-- the two groups of a pair, as the relation P tells them by their positions
pub record IsPairOf (P : ℕ → Option NodeId → Type 0) (pair : Pair) (close : ClosePair) : Type 0 where
  pub first : P pair.first close.first
  pub second : P pair.second (Some close.second)
  pub distance : close.distance ≡ pair.distance

-- the number is that of a node, where there is one
abbrev pub IsSideLive : Numbered → Option NodeId → Type 0
IsSideLive n None = ⊤
IsSideLive n (Some id) = IsLiveNode n id

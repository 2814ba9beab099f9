-- All nodes in the order of their names, as they are kept.
use Rattle.std.specs.Prelude.{◌≡◌, ◌⊎◌, List, Bool, is_some, Option, Some, None}
use Rattle.std.specs.List.{All, AllPairs, Contains}
use Rattle.std.specs.Global.{Global}
use Rattle.std.specs.declared.vec.Vec.{Vec}
use Rattle.std.specs.declared.cmp.Ordering.TheVariants.{Less}
use Rattle.cb_model.specs.declared.node.NodeName.{NodeName}
use Rattle.cb_model.specs.NodeOrder.{node_cmp}
use Rattle.cb_network.specs.declared.edit.Edit.{Edit}
use Rattle.cb_instances.specs.declared.id.InstanceId.{InstanceId}
use Rattle.cb_instances.specs.Net.{Net, slot}
use Rattle.cb_nodes.specs.declared.id.NodeId.{NodeId}
use Rattle.cb_nodes.specs.declared.node.Node.{Node}
use Rattle.cb_nodes.specs.Table.{Table, IsNode}
use Rattle.cb_accept.specs.declared.counts.NodeCounts.{NodeCounts}
use Rattle.cb_topo.specs.Applied.{Applies}
use Rattle.cb_topo.specs.Kept.{IsTopologyOf}
use Rattle.cb_topo.specs.Numbered.{Numbered, IsNodeNamed, IsLiveNode, IsWhole}

-- the name of the one node is less than that of the other
abbrev pub IsBefore : Numbered → NodeId → NodeId → Type 0
IsBefore n a b = (x y : NodeName) → IsNodeNamed n a x → IsNodeNamed n b y → node_cmp x y ≡ Less

-- these are nodes, and their names rise
pub record AreRisingNodes (n : Numbered) (ids : List NodeId) : Type 0 where
  pub live : All (IsLiveNode n) ids
  pub rise : AllPairs (IsBefore n) ids

-- these are all nodes, and their names rise
pub record IsSettled (n : Numbered) (ids : List NodeId) : Type 0 where
  pub rising : AreRisingNodes n ids
  pub all : (id : NodeId) → IsLiveNode n id → Contains ids id

-- the node is at the instance
abbrev pub IsAt : Numbered → InstanceId → NodeId → Type 0
IsAt n i id = (node : Node) × IsNode n.nodes id node × (node.instance ≡ i)

-- whether the number has a node
abbrev pub has_node : Table → NodeId → Bool
has_node nodes id = is_some (slot nodes id.0)

-- these are all nodes but those at the instance, and their names rise
pub record LacksInstance (n : Numbered) (i : InstanceId) (ids : List NodeId) : Type 0 where
  pub rising : AreRisingNodes n ids
  pub others : (id : NodeId) → IsLiveNode n id → ¬ IsAt n i id → Contains ids id
  pub none : (id : NodeId) → Contains ids id → ¬ IsAt n i id

-- of these, those that are nodes are all nodes, and their names rise
pub record MayBeGone (n : Numbered) (ids : List NodeId) : Type 0 where
  pub rise : AllPairs (IsBefore n) ids
  pub all : (id : NodeId) → IsLiveNode n id → Contains ids id

-- the node is among them now, and the others are those that were
pub record PutsIn (n : Numbered) (old new : List NodeId) (id : NodeId) : Type 0 where
  pub rising : AreRisingNodes n new
  pub this : Contains new id
  pub kept : (k : NodeId) → Contains old k → Contains new k
  pub others : (k : NodeId) → Contains new k → Contains old k ⊎ (k ≡ id)

-- these were all nodes in order, and then the edit was made
pub record WereSettled (n : Numbered) (edit : Edit) (ids : List NodeId) : Type 0 where
  pub old : Numbered
  pub old_whole : IsWhole old
  pub whole : IsWhole n
  pub settled : IsSettled old ids
  pub applies : Applies old edit n

-- nodes that are kept in order are all nodes
abbrev pub IsSettledOrder : Numbered → Option (Vec NodeId Global) → Type 0
IsSettledOrder n None = Unit {0}
IsSettledOrder n (Some order) = IsSettled n order.items

-- so they were before the edit
abbrev pub WasOrderOf : Numbered → Edit → Option (Vec NodeId Global) → Type 0
WasOrderOf n edit None = Unit {0}
WasOrderOf n edit (Some order) = WereSettled n edit order.items

-- what is kept of a topology: its parts, and the order of its nodes where they are settled
pub record IsTopologyState (net : Net) (nodes : Table) (counts : NodeCounts) (order : Option (Vec NodeId Global)) : Type 0 where
  pub topology : IsTopologyOf net nodes counts
  pub settled : IsSettledOrder (record { net = net; nodes = nodes }) order

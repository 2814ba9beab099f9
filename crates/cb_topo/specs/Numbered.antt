-- A topology whose instances and nodes have numbers.
use Rattle.std.specs.Prelude.{◌≡◌, List}
use Rattle.std.specs.List.{AllZip}
use Rattle.cb_model.specs.declared.node.NodeName.{NodeName}
use Rattle.cb_network.specs.Topology.{Topology}
use Rattle.cb_network.specs.Nodes.{IsNodeOf}
use Rattle.cb_instances.specs.Net.{Net, IsNamed, HasEventAt, event_name, IsWholeNet}
use Rattle.cb_nodes.specs.declared.id.NodeId.{NodeId}
use Rattle.cb_nodes.specs.declared.node.Node.{Node}
use Rattle.cb_nodes.specs.Table.{Table, IsNode}

-- the instances with their numbers, and the nodes with theirs
pub record Numbered : Type 0 where
  pub net : Net
  pub nodes : Table

abbrev pub topology_of : Numbered → Topology
topology_of n = n.net.topology

-- the node of this number has this name
pub record IsNodeNamed (n : Numbered) (id : NodeId) (name : NodeName) : Type 0 where
  pub node : Node
  pub is : IsNode n.nodes id node
  pub instance : IsNamed n.net node.instance name.instance
  pub event : event_name n.net.topology.model node.event ≡ name.event

-- the number is that of a node
abbrev pub IsLiveNode : Numbered → NodeId → Type 0
IsLiveNode n id = (name : NodeName) × IsNodeNamed n id name

-- these numbers are those of these nodes, one by one
abbrev pub AreNamed : Numbered → List NodeId → List NodeName → Type 0
AreNamed n ids names = AllZip (IsNodeNamed n) ids names

-- a name has one number, nodes are those of the topology, each of an event of its instance's class, and instances too
pub record IsWhole (n : Numbered) : Type 0 where
  pub net : IsWholeNet n.net
  pub one : (i j : NodeId) (name : NodeName) → IsNodeNamed n i name → IsNodeNamed n j name → i ≡ j
  pub live : (id : NodeId) (name : NodeName) → IsNodeNamed n id name → IsNodeOf (topology_of n) name
  pub named : (name : NodeName) → IsNodeOf (topology_of n) name → (id : NodeId) × IsNodeNamed n id name
  pub node_named : (id : NodeId) (node : Node) → IsNode n.nodes id node → (name : NodeName) × IsNodeNamed n id name
  pub had : (id : NodeId) (node : Node) → IsNode n.nodes id node → HasEventAt n.net node.instance node.event

-- What is kept of a topology beside its instances: numbers of nodes, and counts.
use Rattle.std.specs.Prelude.{◌≤◌, length}
use Rattle.cb_model.specs.declared.id.ClassId.{ClassId}
use Rattle.cb_model.specs.declared.id.EventId.{EventId}
use Rattle.cb_model.specs.WellTyped.{WellTyped, IsClass}
use Rattle.cb_network.specs.Topology.{Topology, HasClass}
use Rattle.cb_network.specs.Sound.{Sound, node_limit}
use Rattle.cb_instances.specs.declared.id.InstanceId.{InstanceId}
use Rattle.cb_instances.specs.Net.{Net, IsLiveInstance, HasEventAt, IsWholeNet}
use Rattle.cb_nodes.specs.declared.id.NodeId.{NodeId}
use Rattle.cb_nodes.specs.declared.node.Node.{Node}
use Rattle.cb_nodes.specs.Table.{Table, IsNode, NumbersEvent as HasEventIn, IsOne}
use Rattle.cb_accept.specs.declared.counts.NodeCounts.{NodeCounts}
use Rattle.cb_accept.specs.Counts.{AreCounts}
use Rattle.cb_network.specs.Words.{InstanceName}

-- exactly the events of live instances have numbers, each has one, and the numbers are below the limit of nodes
pub record FitsTable (net : Net) (nodes : Table) : Type 0 where
  pub one : IsOne nodes
  pub live : (id : NodeId) (node : Node) → IsNode nodes id node → IsLiveInstance net node.instance
  pub had : (id : NodeId) (node : Node) → IsNode nodes id node → HasEventAt net node.instance node.event
  pub all : (i : InstanceId) (e : EventId) → IsLiveInstance net i → HasEventAt net i e → HasEventIn nodes i e
  pub few : length nodes ≤ node_limit

-- instances are of classes of the model
abbrev pub AreClassed : Topology → Type 0
AreClassed t = (name : InstanceName) (c : ClassId) → HasClass t name c → IsClass t.model c

-- the topology is sound, its instances are of the model's classes, its nodes have numbers, and the counts are its own
pub record IsTopologyOf (net : Net) (nodes : Table) (counts : NodeCounts) : Type 0 where
  pub sound : Sound net.topology
  pub typed : WellTyped net.topology.model
  pub whole : IsWholeNet net
  pub classed : AreClassed net.topology
  pub table : FitsTable net nodes
  pub counted : AreCounts net.topology counts

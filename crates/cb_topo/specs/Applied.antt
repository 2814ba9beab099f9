-- What an accepted edit does to the numbers.
use Rattle.std.specs.Prelude.{◌≡◌, ◌+◌, ℕ, List, length, max, Ok}
use Rattle.cb_model.specs.declared.id.ClassId.{ClassId}
use Rattle.cb_model.specs.declared.id.EventId.{EventId}
use Rattle.cb_model.specs.declared.node.NodeName.{NodeName}
use Rattle.cb_model.specs.Classes.{NamesClass}
use Rattle.cb_model.specs.Views.{AreEventsOf}
use Rattle.cb_network.specs.declared.edit.Edit.{Edit}
use Rattle.cb_network.specs.declared.edit.Edit.TheVariants.{Create, Link}
use Rattle.cb_network.specs.Topology.{IsLive}
use Rattle.cb_network.specs.Nodes.{IsNodeOf}
use Rattle.cb_network.specs.Edits.{IsAfter, IsAccepted, IsRefused}
use Rattle.cb_instances.specs.declared.id.InstanceId.{InstanceId}
use Rattle.cb_instances.specs.Net.{IsNamed}
use Rattle.cb_nodes.specs.declared.id.NodeId.{NodeId}
use Rattle.cb_nodes.specs.Table.{capacity_with}
use Rattle.cb_topo.specs.declared.fault.EditFault.{EditFault}
use Rattle.cb_topo.specs.declared.fault.EditFault.TheVariants.{Refused, NoMemory}
use Rattle.cb_topo.specs.Numbered.{Numbered, topology_of, IsNodeNamed}
use Rattle.cb_network.specs.Words.{InstanceName}

-- an instance that is live before and after keeps its number
abbrev pub KeepsInstances : Numbered → Numbered → Type 0
KeepsInstances old new = (id : InstanceId) (name : InstanceName) → IsNamed old.net id name → IsLive (topology_of new) name → IsNamed new.net id name

-- so does a node
abbrev pub KeepsNodes : Numbered → Numbered → Type 0
KeepsNodes old new = (id : NodeId) (name : NodeName) → IsNodeNamed old id name → IsNodeOf (topology_of new) name → IsNodeNamed new id name

-- numbers of nodes are below this once the edit is made: a further instance alone needs new ones, where the free ones are too few
abbrev pub IsNodeCapacityAfter : Numbered → Edit → ℕ → Type 0
IsNodeCapacityAfter n (Create name class) capacity = (c : ClassId) × (events : List EventId) × NamesClass (topology_of n).model class c
    × AreEventsOf (topology_of n).model c events × (capacity ≡ capacity_with n.nodes (length events))
IsNodeCapacityAfter n edit capacity = capacity ≡ length n.nodes

-- numbers of instances are below this once the edit is made: a further instance alone needs a new one, where none is free
abbrev pub IsInstanceCapacityAfter : Numbered → Edit → ℕ → Type 0
IsInstanceCapacityAfter n (Create name class) capacity = capacity ≡ max n.net.capacity (n.net.next + 1)
IsInstanceCapacityAfter n edit capacity = capacity ≡ n.net.capacity

-- the accepted edit makes the new of the old
pub record Applies (old : Numbered) (edit : Edit) (new : Numbered) : Type 0 where
  pub after : IsAfter (topology_of old) edit (Ok (topology_of new))
  pub instances : KeepsInstances old new
  pub nodes : KeepsNodes old new
  pub node_capacity : IsNodeCapacityAfter old edit (length new.nodes)
  pub instance_capacity : IsInstanceCapacityAfter old edit new.net.capacity

-- the edit is one that may need memory
abbrev pub MayGrow : Edit → Type 0
MayGrow (Create name class) = Unit {0}
MayGrow (Link a rel b) = Unit {0}
MayGrow edit = ⊥

-- why the edit isn't made: it is refused for this, or it is accepted and one that may need memory
abbrev pub Prevents : Numbered → Edit → EditFault → Type 0
Prevents n edit (Refused why) = IsRefused (topology_of n) edit why
Prevents n edit NoMemory = IsAccepted (topology_of n) edit × MayGrow edit

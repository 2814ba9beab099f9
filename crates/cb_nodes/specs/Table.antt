-- Nodes under numbers. A table is the list of what each number has.
use Rattle.std.specs.Prelude.{◌≡◌, ◌≢◌, ◌↔◌, ◌⊎◌, ◌+◌, ℕ, List, length, max, Option, Some, is_some, count_by}
use Rattle.std.specs.List.{Contains}
use Rattle.cb_model.specs.declared.id.EventId.{EventId}
use Rattle.cb_instances.specs.declared.id.InstanceId.{InstanceId}
use Rattle.cb_instances.specs.Net.{slot, Once}
use Rattle.cb_nodes.specs.declared.id.NodeId.{NodeId}
use Rattle.cb_nodes.specs.declared.node.Node.{Node}

abbrev pub Table : Type 0
Table = List (Option Node)

-- the number has this node
abbrev pub IsNode : Table → NodeId → Node → Type 0
IsNode nodes id node = slot nodes id.0 ≡ Some node

-- the number has a node
abbrev pub HasNumber : Table → NodeId → Type 0
HasNumber nodes id = (node : Node) × IsNode nodes id node

-- the event of the instance
abbrev pub node_of : InstanceId → EventId → Node
node_of i e = record { instance = i; event = e }

-- some number has the event of the instance
abbrev pub NumbersEvent : Table → InstanceId → EventId → Type 0
NumbersEvent nodes i e = (id : NodeId) × IsNode nodes id (node_of i e)

-- these are the events that the table has of the instance, each once
pub record AreEventsAt (nodes : Table) (i : InstanceId) (events : List EventId) : Type 0 where
  pub once : Once events
  pub exactly : (e : EventId) → Contains events e ↔ NumbersEvent nodes i e

-- how many numbers have a node
abbrev pub count_of : Table → ℕ
count_of nodes = count_by is_some nodes

-- how many numbers there are, in use or free, once that many further nodes have theirs
abbrev pub capacity_with : Table → ℕ → ℕ
capacity_with nodes more = max (length nodes) (count_of nodes + more)

-- no node has two numbers
abbrev pub IsOne : Table → Type 0
IsOne nodes = (i j : NodeId) (node : Node) → IsNode nodes i node → IsNode nodes j node → i ≡ j

-- the instance's events have numbers too, which were free, and every other node keeps its own
pub record Adds (old new : Table) (i : InstanceId) (events : List EventId) : Type 0 where
  pub kept : (id : NodeId) (node : Node) → IsNode old id node → IsNode new id node
  pub each : (id : NodeId) (node : Node) → IsNode new id node → IsNode old id node ⊎ ((node.instance ≡ i) × Contains events node.event)
  pub all : (e : EventId) → Contains events e → NumbersEvent new i e
  pub count : count_of new ≡ count_of old + length events
  pub capacity : length new ≡ capacity_with old (length events)

-- the instance's nodes have no numbers any more, and every other node keeps its own
pub record Removes (old new : Table) (i : InstanceId) : Type 0 where
  pub each : (id : NodeId) (node : Node) → IsNode new id node ↔ (IsNode old id node × (node.instance ≢ i))
  pub count : (events : List EventId) → AreEventsAt old i events → count_of new + length events ≡ count_of old
  pub capacity : length new ≡ length old

-- Spans: the nodes that a root causes, each with a reason.
use Rattle.std.specs.Prelude.{◌≡◌, ℕ, ◌-◌, ◌<◌, ◌≤◌, List, Some, slice_get}
use Rattle.std.specs.List.{All}
use Rattle.cb_model.specs.declared.node.NodeName.{NodeName}
use Rattle.cb_model.specs.Order.{Rises}
use Rattle.cb_model.specs.NodeOrder.{node_cmp}
use Rattle.cb_network.specs.Topology.{Topology}
use Rattle.cb_network.specs.Nodes.{IsNodeOf}
use Rattle.cb_network.specs.Causes.{Edge}
use Rattle.cb_cert.specs.declared.certificate.Entry.{Entry}
use Rattle.cb_cert.specs.declared.certificate.Span.{Span}

-- nodes of the topology, in order and each once
pub record AreNodes (t : Topology) (nodes : List NodeName) : Type 0 where
  pub rise : Rises node_cmp nodes
  pub live : All (IsNodeOf t) nodes

-- the number, which counts from 1, stands for this one of the nodes
pub record StandsFor (nodes : List NodeName) (number : ℕ) (node : NodeName) : Type 0 where
  pub counted : 0 < number
  pub is : slice_get nodes (number - 1) ≡ Some node

-- the entry at a position of the span, which counts from 0, lists the node
pub record IsListedAt (nodes : List NodeName) (span : Span) (place : ℕ) (node : NodeName) : Type 0 where
  pub entry : Entry
  pub is : slice_get span.entries place ≡ Some entry
  pub names : StandsFor nodes entry.node node

-- the span lists the node
abbrev pub ListsNode : List NodeName → Span → NodeName → Type 0
ListsNode nodes span node = (place : ℕ) × IsListedAt nodes span place node

-- the parent is the position, counted from 1, of an entry before this position, which counts from 0
abbrev pub IsEarlier : Entry → ℕ → Type 0
IsEarlier entry place = (0 < entry.parent) × (entry.parent ≤ place)

-- an edge leads from the node of the entry's parent to the entry's node
pub record HasEdge (t : Topology) (nodes : List NodeName) (span : Span) (entry : Entry) : Type 0 where
  pub from : NodeName
  pub to : NodeName
  pub from_is : IsListedAt nodes span (entry.parent - 1) from
  pub to_is : StandsFor nodes entry.node to
  pub edge : Edge t from to

-- the span begins with this node, without a parent
pub record BeginsWithRoot (nodes : List NodeName) (span : Span) (root : NodeName) : Type 0 where
  pub entry : Entry
  pub first : slice_get span.entries 0 ≡ Some entry
  pub names : StandsFor nodes entry.node root
  pub alone : entry.parent ≡ 0

-- the span begins with the root, each later entry has an edge from an earlier one, no node is listed twice, and with a node
-- all its successors are listed
pub record IsSpanOf (t : Topology) (nodes : List NodeName) (root : NodeName) (span : Span) : Type 0 where
  pub begins : BeginsWithRoot nodes span root
  pub earlier : (place : ℕ) (entry : Entry) → 0 < place → slice_get span.entries place ≡ Some entry → IsEarlier entry place
  pub edges : (place : ℕ) (entry : Entry) → 0 < place → slice_get span.entries place ≡ Some entry → HasEdge t nodes span entry
  pub once : (i j : ℕ) (node : NodeName) → IsListedAt nodes span i node → IsListedAt nodes span j node → i ≡ j
  pub closed : (p q : NodeName) → ListsNode nodes span p → Edge t p q → ListsNode nodes span q

-- Kinds of nodes, and the name that two parts make.
use Rattle.cb_model.specs.declared.node.NodeName.{NodeName}
use Rattle.cb_network.specs.Topology.{Topology}
use Rattle.cb_network.specs.Nodes.{IsNodeOf, IsColumn, IsProblem}
use Rattle.cb_topo.specs.declared.kind.NodeKind.{NodeKind}
use Rattle.cb_topo.specs.declared.kind.NodeKind.TheVariants.{Column, Problem, Any}
use Rattle.cb_topo.specs.declared.settled.NodeParts.{NodeParts}

-- what a node of this kind is
abbrev pub IsOfKind : NodeKind → Topology → NodeName → Type 0
IsOfKind Column = IsColumn
IsOfKind Problem = IsProblem
IsOfKind Any = IsNodeOf

-- the name of the node, from its two parts
abbrev pub called : NodeParts → NodeName
called one = record { event = one.event.now; instance = one.instance.now }

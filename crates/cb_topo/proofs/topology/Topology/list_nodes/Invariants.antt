use Rattle.std.proofs.Common.{◌≡◌, ◌++◌, List, take}
use Rattle.cb_nodes.specs.declared.id.NodeId.{NodeId}
use Rattle.cb_topo.proofs.ByNames.{AreNodesOfEvents}
use Rattle.cb_topo.proofs.topology.Topology.list_nodes.Given as goal

abbrev pub invariant-loop-event : goal.invariant-loop-event
invariant-loop-event l = (ids : List NodeId) × AreNodesOfEvents l.self l.instance (take l.event-index l.events) ids × (l.nodes.items ≡ l.initial.nodes.items ++ ids)

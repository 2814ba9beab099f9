-- Nodes of a kind.
use Rattle.cb_model.specs.declared.node.NodeName.{NodeName}
use Rattle.cb_network.specs.Nodes.{IsNodeOf}
use Rattle.cb_network.specs.Topology.{Topology}
use Rattle.cb_topo.specs.declared.kind.NodeKind.{NodeKind}
use Rattle.cb_topo.specs.declared.kind.NodeKind.TheVariants.{Column, Problem, Any}
use Rattle.cb_topo.specs.Ordered.{IsOfKind}

-- what is of a kind is a node
pub of_topology : (kind : NodeKind) (t : Topology) (name : NodeName) → IsOfKind kind t name → IsNodeOf t name
of_topology Column t name is = (is.symptom.event, record { class = is.symptom.class; of_class = is.symptom.of_class; named = (is.symptom.symptom.has, is.symptom.named) })
of_topology Problem t name is = (is.event, record { class = is.class; of_class = is.of_class; named = (is.problem.has, is.named) })
of_topology Any t name is = is

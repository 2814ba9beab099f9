use Rattle.std.proofs.Common.{◌↔◌, sym, subst}
use Rattle.std.specs.Prelude.{IsTrue}
use Rattle.cb_model.specs.declared.node.NodeName.{NodeName}
use Rattle.cb_network.specs.Nodes.{IsProblem, IsSymptomNode}
use Rattle.cb_nodes.specs.Table.{IsNode}
use Rattle.cb_topo.specs.Numbered.{Numbered, topology_of, IsNodeNamed}
use Rattle.cb_topo.proofs.Naming.{reported_problem, reported_symptom}
use Rattle.cb_topo.proofs.topology.Topology.marks_of.Goals as goal

pub returns-clause-problem : goal.returns-clause-problem
returns-clause-problem c =
    let n : Numbered = record { net = c.self.inside.net; nodes = c.self.inside.nodes } in
    let at = subst (λ (m : Numbered). IsNode m.nodes c.args.node c.node_of-at.result) (sym c.self.view_is) c.node_of-at.ensures in
    subst (λ (m : Numbered). (name : NodeName) → IsNodeNamed m c.args.node name → IsTrue c.marks.result.problem ↔ IsProblem (topology_of m) name) c.self.view_is
    (λ name named. reported_problem n c.self.inside.counts c.self.invariant.topology c.args.node c.node_of-at.result at c.model.result.now c.model.ensures.value c.class_of-class.result c.class_of-class.ensures name named c.marks.result.problem c.marks.ensures.problem)

pub returns-clause-symptom : goal.returns-clause-symptom
returns-clause-symptom c =
    let n : Numbered = record { net = c.self.inside.net; nodes = c.self.inside.nodes } in
    let at = subst (λ (m : Numbered). IsNode m.nodes c.args.node c.node_of-at.result) (sym c.self.view_is) c.node_of-at.ensures in
    subst (λ (m : Numbered). (name : NodeName) → IsNodeNamed m c.args.node name → IsTrue c.marks.result.symptom ↔ IsSymptomNode (topology_of m) name) c.self.view_is
    (λ name named. reported_symptom n c.self.inside.counts c.self.invariant.topology c.args.node c.node_of-at.result at c.model.result.now c.model.ensures.value c.class_of-class.result c.class_of-class.ensures name named c.marks.result.symptom c.marks.ensures.symptom)

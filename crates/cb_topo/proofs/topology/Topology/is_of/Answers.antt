use Rattle.std.proofs.Common.{◌≡◌, ◌↔◌, Bool, IsTrue, sym, subst}
use Rattle.cb_model.specs.declared.node.NodeName.{NodeName}
use Rattle.cb_topo.specs.declared.kind.NodeKind.{NodeKind}
use Rattle.cb_topo.specs.declared.kind.NodeKind.TheVariants.{Column, Problem, Any}
use Rattle.cb_topo.specs.Numbered.{Numbered, topology_of, IsNodeNamed, IsLiveNode, IsWhole}
use Rattle.cb_topo.specs.Ordered.{IsOfKind}
use Rattle.cb_topo.proofs.Naming.{whole, reported_live}
use Rattle.cb_topo.proofs.topology.Topology.is_of.Goals as goal

pub returns-in-Column : goal.returns-in-Column
returns-in-Column c =
    let n = c.args.self.now in
    let same : c.args.kind ≡ Column = cc in
    subst (λ (k : NodeKind). (name : NodeName) → IsNodeNamed n c.args.node name → IsTrue c.is_column.result ↔ IsOfKind k (topology_of n) name) (sym same) c.is_column.ensures

pub returns-in-Problem : goal.returns-in-Problem
returns-in-Problem c =
    let n = c.args.self.now in
    let same : c.args.kind ≡ Problem = cc in
    subst (λ (k : NodeKind). (name : NodeName) → IsNodeNamed n c.args.node name → IsTrue c.is_problem.result ↔ IsOfKind k (topology_of n) name) (sym same) c.is_problem.ensures

pub returns-in-Any : goal.returns-in-Any
returns-in-Any c =
    let n = c.args.self.now in
    let same : c.args.kind ≡ Any = cc in
    let seen : Numbered = record { net = c.self.inside.net; nodes = c.self.inside.nodes } in
    let is_whole = subst IsWhole c.self.view_is (whole seen c.self.inside.counts c.self.invariant.topology) in
    let reported = reported_live seen c.self.inside.counts c.self.invariant.topology c.args.node c.node.result c.node.ensures.found c.node.ensures.absent in
    let live = subst (λ (m : Numbered). IsTrue c.is_some.result ↔ IsLiveNode m c.args.node) c.self.view_is
    (subst (λ (b : Bool). IsTrue b ↔ IsLiveNode seen c.args.node) (sym c.is_some.ensures) reported) in
    subst (λ (k : NodeKind). (name : NodeName) → IsNodeNamed n c.args.node name → IsTrue c.is_some.result ↔ IsOfKind k (topology_of n) name) (sym same)
    (λ name named. (λ yes. is_whole.live c.args.node name named, λ is. live.1 (name, named)))

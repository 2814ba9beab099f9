use Rattle.std.proofs.Common.{List, length, subst}
use Rattle.cb_model.specs.declared.node.NodeName.{NodeName}
use Rattle.cb_topo.specs.Numbered.{Numbered, topology_of}
use Rattle.cb_levels.specs.Valid.{BeginsAtProblem}
use Rattle.cb_explain.specs.Checking.{AreGoodNodes, IsFirstBadNode}
use Rattle.cb_explain.proofs.Rejecting.{bad_node, bad_root}
use Rattle.cb_explain.proofs.checking.check_levels.Goals as goal

pub returns-in-Some-clause-why : goal.returns-in-Some-clause-why
returns-in-Some-clause-why g c =
    let levels = c.args.levels.now in
    let position = c.in-Some.position in
    let bad = subst (λ (ns : List NodeName). IsFirstBadNode (topology_of c.topology.result.now) ns position) c.as_slice.ensures c.in-Some.ensures.bad in
    bad_node (topology_of c.args.graph.now) levels position (subst (λ (m : Numbered). IsFirstBadNode (topology_of m) levels.nodes position) c.topology.ensures bad)

pub returns-in_default-root_of-clause-why : goal.returns-in_default-root_of-clause-why
returns-in_default-root_of-clause-why g c =
    let levels = c.args.levels.now in
    let good = subst (λ (ns : List NodeName). AreGoodNodes (topology_of c.topology.result.now) ns (length ns)) c.as_slice.ensures c.in_default.ensures.good in
    bad_root (topology_of c.args.graph.now) levels
    (subst (λ (m : Numbered). AreGoodNodes (topology_of m) levels.nodes (length levels.nodes)) c.topology.ensures good)
    (subst (λ (m : Numbered). (root : NodeName) → ¬ BeginsAtProblem (topology_of m) levels root) c.topology-2.ensures c.in_default-root_of.ensures.none)

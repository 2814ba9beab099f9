use Rattle.std.proofs.Common.{List, sym, subst}
use Rattle.cb_network.specs.Nodes.{AreProblems}
use Rattle.cb_network.specs.Sound.{Sound}
use Rattle.cb_nodes.specs.declared.id.NodeId.{NodeId}
use Rattle.cb_topo.specs.Numbered.{Numbered, topology_of, AreNamed, IsWhole}
use Rattle.cb_cache.specs.Numbers.{AreProblemNumbers}
use Rattle.cb_matrix.specs.Coded.{AreGroupedAt}
use Rattle.cb_matrix.proofs.Matched.{all_coded}
use Rattle.cb_matrix.proofs.Held.{all_in_groups}
use Rattle.cb_matrix.proofs.Numbering.{problems_numbered}
use Rattle.cb_matrix.proofs.problems.GroupedProblems.search.Goals as goal

pub search_groups-requires : goal.search_groups-requires
search_groups-requires g c =
    let n = c.topology-topology.result.now in
    let capacity = c.node_capacity-capacity.ensures in
    let problems = c.in_ok-problems.ensures in
    subst (λ (m : Numbered). AreProblemNumbers m c.as_slice.result.now) c.topology-topology.ensures
    (subst (AreProblemNumbers n) (sym c.as_slice.ensures) (problems_numbered n capacity.whole capacity.sound c.in_ok-problems.problems problems.0 problems.2 problems.1))

pub returns-clause-problems : goal.returns-clause-problems
returns-clause-problems g c =
    let n = c.args.graph.now in
    let here = c.topology-topology.ensures in
    let nodes = c.args.columns.now in
    let ids = c.in_ok-problems.problems in
    let columns = c.requires in
    let problems = c.in_ok-problems.ensures in
    let grouping = c.in_ok-grouping.grouping in
    let grouped = subst (λ (xs : List NodeId). AreGroupedAt n nodes xs grouping) c.as_slice.ensures c.in_ok-grouping.ensures.groups in
    all_in_groups n nodes ids columns.names grouping grouped columns.named
    (all_coded n
    (subst IsWhole here c.node_capacity-capacity.ensures.whole)
    (subst (λ (m : Numbered). Sound (topology_of m)) here c.node_capacity-capacity.ensures.sound)
    nodes ids grouped.problems columns.names problems.0 columns.are columns.named
    (subst (λ (m : Numbered). AreProblems (topology_of m) problems.0) here problems.1)
    (subst (λ (m : Numbered). AreNamed m ids problems.0) here problems.2)
    grouped.coded)

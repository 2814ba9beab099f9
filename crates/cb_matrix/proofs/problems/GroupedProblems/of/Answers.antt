use Rattle.std.proofs.Common.{◌≡◌, ◌≤◌, List, [], ◌∷◌, length, sym, ap, subst, ◌∙◌}
use Rattle.std.specs.List.{All, Contains}
use Rattle.cb_model.specs.declared.node.NodeName.{NodeName}
use Rattle.cb_coding.specs.Groups.{zeros}
use Rattle.cb_codes.specs.Grouped.{group, groups_in, FitsTogether}
use Rattle.cb_network.specs.Nodes.{AreProblems}
use Rattle.cb_network.specs.Sound.{Sound, node_limit}
use Rattle.cb_nodes.specs.declared.id.NodeId.{NodeId}
use Rattle.cb_topo.specs.Numbered.{Numbered, topology_of, IsLiveNode, AreNamed, IsWhole}
use Rattle.cb_cache.specs.Numbers.{IsProblemNumber}
use Rattle.cb_matrix.proofs.Matched.{all_live, all_problem_numbers, all_coded}
use Rattle.cb_cache.specs.Rows.{HaveRows}
use Rattle.cb_matrix.specs.Coded.{AddsCodedProblems}
use Rattle.cb_matrix.proofs.Held.{all_added, all_in_groups}
use Rattle.cb_matrix.proofs.problems.GroupedProblems.of.Goals as goal

pub add_by_rows-requires-clause-few : goal.add_by_rows-requires-clause-few
add_by_rows-requires-clause-few c =
    let capacity = c.node_capacity-capacity.ensures in
    subst (λ k. k ≤ node_limit) capacity.value capacity.few

numbers : (n : Numbered) (ids : List NodeId) (names : List NodeName) → AreProblems (topology_of n) names → AreNamed n ids names → All (IsProblemNumber n) ids
numbers n ids names are named = all_problem_numbers n ids names named are.each

pub add_by_rows-requires-clause-rows : goal.add_by_rows-requires-clause-rows
add_by_rows-requires-clause-rows c =
    let here = c.topology-topology.ensures ∙ c.graph.ensures in
    let ids = c.in_ok-problems.problems in
    let n = c.topology-topology.result.now in
    let problems = c.in_ok-problems.ensures in
    let all = numbers n ids problems.0 problems.1 problems.2 in
    let rows = subst (λ (m : Numbered). HaveRows m (IsProblemNumber m) c.rows.result.now) (sym here) c.rows.ensures in
    record {
      each = λ id has.
          let among = subst (λ (xs : List NodeId). Contains xs id) c.as_slice-nodes.ensures has in
          rows.each id (subst (IsProblemNumber n) among.2 (all among.0 id among.1));
      width = rows.width;
    }

pub add_by_rows-requires-clause-live : goal.add_by_rows-requires-clause-live
add_by_rows-requires-clause-live c =
    let problems = c.in_ok-problems.ensures in
    subst (λ (xs : List NodeId). All (IsLiveNode c.topology-topology.result.now) xs) (sym c.as_slice-nodes.ensures)
    (all_live c.topology-topology.result.now c.in_ok-problems.problems problems.0 problems.2)

pub add_by_rows-requires-clause-sound : goal.add_by_rows-requires-clause-sound
add_by_rows-requires-clause-sound c = subst (λ width. FitsTogether width c.in_ok-grouping.grouping) c.len.ensures c.in_ok-grouping.ensures.sound

pub returns : goal.returns
returns c =
    let n = c.args.cache.now.graph in
    let nodes = c.args.columns.now in
    let ids = c.in_ok-problems.problems in
    let columns = c.requires in
    let problems = c.in_ok-problems.ensures in
    let here = c.topology-topology.ensures ∙ c.graph.ensures in
    let quiet = c.in_ok-grouping.grouping in
    let grouping = c.add_by_rows.new.grouping in
    let sound = subst (λ width. FitsTogether width quiet) c.len.ensures c.in_ok-grouping.ensures.sound in
    let alone : groups_in quiet ≡ group (zeros (length nodes)) [] ∷ [] = c.in_ok-grouping.ensures.quiet ∙ ap (λ width. group (zeros width) [] ∷ []) c.len.ensures in
    let added = subst (λ (m : Numbered). AddsCodedProblems m nodes ids quiet grouping) here
    (subst (λ (xs : List NodeId). AddsCodedProblems c.topology-topology.result.now nodes xs quiet grouping) c.as_slice-nodes.ensures c.in_ok-add_by_rows.ensures) in
    let grouped = all_added n nodes ids quiet grouping sound alone c.in_ok-grouping.ensures.none added in
    all_in_groups n nodes ids columns.names grouping grouped columns.named
    (all_coded n
    (subst IsWhole here c.node_capacity-capacity.ensures.whole)
    (subst (λ (m : Numbered). Sound (topology_of m)) here c.node_capacity-capacity.ensures.sound)
    nodes ids grouped.problems columns.names problems.0 columns.are columns.named
    (subst (λ (m : Numbered). AreProblems (topology_of m) problems.0) here problems.1)
    (subst (λ (m : Numbered). AreNamed m ids problems.0) here problems.2)
    grouped.coded)

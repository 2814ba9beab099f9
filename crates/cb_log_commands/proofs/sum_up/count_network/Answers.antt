use Rattle.std.proofs.Common.{◌≡◌, ◌∙◌, ap, subst, map, length, arith}
use Rattle.std.specs.FinMap as maps
use Rattle.cb_network.specs.Nodes.{IsCount, IsNodeOf}
use Rattle.cb_network.specs.Sound.{Sound, node_limit}
use Rattle.cb_topo.specs.Numbered.{Numbered, topology_of, IsNodeNamed}
use Rattle.cb_validity.proofs.Passing.{zip_lengths}
use Rattle.cb_log_commands.proofs.Summing.{few_of, few_problems, as_many}
use Rattle.cb_log_commands.proofs.sum_up.count_network.Goals as goal

pub overflow_cast-summary-2 : goal.overflow_cast-summary-2
overflow_cast-summary-2 c =
    let few = few_of (IsNodeOf (topology_of c.topology-topology.result.now)) node_limit c.node_count.result c.node_count.ensures c.node_capacity-capacity.ensures.sound.few_nodes in
    omega (arith, few)

pub overflow_cast-summary-3 : goal.overflow_cast-summary-3
overflow_cast-summary-3 c =
    let same : c.topology-topology.result.now ≡ c.args.cache.now.graph = c.topology-topology.ensures ∙ c.graph.ensures in
    let sound = subst (λ (n : Numbered). Sound (topology_of n)) same c.node_capacity-capacity.ensures.sound in
    let n = c.args.cache.now.graph in
    let matrix = c.in_ok-matrix.ensures.matrix in
    let names = map (λ p. p.name) matrix.is.problems in
    let few = few_problems (topology_of n) names sound matrix.is.problems_are.names in
    let named = zip_lengths (IsNodeNamed n) c.in_ok-matrix.matrix.problems names matrix.problems_named in
    let numbers = ap length c.problems.ensures in
    let len = c.len.ensures in
    omega (arith, few, named, numbers, len)

pub returns-clause-counts : goal.returns-clause-counts
returns-clause-counts c =
    let same : c.topology-topology.result.now ≡ c.args.cache.now.graph = c.topology-topology.ensures ∙ c.graph.ensures in
    let n = c.args.cache.now.graph in
    let matrix = c.in_ok-matrix.ensures.matrix in
    let names = map (λ p. p.name) matrix.is.problems in
    record {
      instances = subst (λ (n : Numbered). c.instance_count.result ≡ maps.len (topology_of n).instances) same c.instance_count.ensures;
      nodes = subst (λ (n : Numbered). IsCount (IsNodeOf (topology_of n)) c.node_count.result) same c.node_count.ensures;
      names = names;
      are_problems = matrix.is.problems_are.names;
      problems = c.len.ensures ∙ (ap length c.problems.ensures ∙ zip_lengths (IsNodeNamed n) c.in_ok-matrix.matrix.problems names matrix.problems_named);
      columns = matrix.columns;
      coded = c.in_ok-matrix.matrix.groups;
      matrix = matrix.is;
      symptoms = c.len-2.ensures ∙ (ap length c.columns.ensures ∙ zip_lengths (IsNodeNamed n) c.in_ok-matrix.matrix.columns matrix.columns matrix.columns_named);
      groups = c.len-3.ensures ∙ (ap length c.groups.ensures ∙ as_many c.in_ok-matrix.matrix.groups);
    }

use Rattle.std.proofs.Common.{subst, sym, arith}
use Rattle.cb_topo.specs.Columns.{AreIdsBelow}
use Rattle.cb_topo.specs.Numbered.{topology_of}
use Rattle.cb_topo.proofs.Positions.{distinct_of_rising, named_below, length_named, few_columns}
use Rattle.cb_topo.proofs.topology.Topology.column_index.Goals as goal

pub positions_of-requires-clause-once : goal.positions_of-requires-clause-once
positions_of-requires-clause-once c =
    let columns = c.in_ok-nodes.ensures in
    distinct_of_rising c.args.self.now c.in_ok-nodes.nodes columns.0 columns.1.rise columns.2

pub positions_of-requires-clause-below : goal.positions_of-requires-clause-below
positions_of-requires-clause-below c =
    let columns = c.in_ok-nodes.ensures in
    subst (λ capacity. AreIdsBelow capacity c.in_ok-nodes.nodes) (sym c.node_capacity-capacity.ensures.value)
    (named_below c.args.self.now c.in_ok-nodes.nodes columns.0 columns.2)

pub positions_of-requires-clause-few : goal.positions_of-requires-clause-few
positions_of-requires-clause-few c =
    let n = c.args.self.now in
    let columns = c.in_ok-nodes.ensures in
    let few = few_columns (topology_of n) c.node_capacity-capacity.ensures.sound columns.0 columns.1 in
    let size = length_named n c.in_ok-nodes.nodes columns.0 columns.2 in
    omega arith

pub returns-clause-columns : goal.returns-clause-columns
returns-clause-columns c =
    let columns = c.in_ok-nodes.ensures in
    record { names = columns.0; are = columns.1; named = columns.2 }

pub returns-clause-below : goal.returns-clause-below
returns-clause-below c =
    let columns = c.in_ok-nodes.ensures in
    named_below c.args.self.now c.in_ok-nodes.nodes columns.0 columns.2

pub returns-clause-few : goal.returns-clause-few
returns-clause-few c =
    let n = c.args.self.now in
    let columns = c.in_ok-nodes.ensures in
    let few = few_columns (topology_of n) c.node_capacity-capacity.ensures.sound columns.0 columns.1 in
    let size = length_named n c.in_ok-nodes.nodes columns.0 columns.2 in
    omega arith

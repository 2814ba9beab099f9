use Rattle.std.proofs.Common.{subst}
use Rattle.cb_breadth.specs.Orders.{IsByNumber}
use Rattle.cb_breadth.proofs.Beginning.{begun}
use Rattle.cb_graph.specs.Edges.{EdgeAt}
use Rattle.cb_matrix.proofs.searched.Searcher.new.Goals as goal

pub returns-clause-new : goal.returns-clause-new
returns-clause-new c = record {
  order = subst (λ capacity. IsByNumber capacity c.in_ok-order.order) c.node_capacity-capacity.ensures.value c.in_ok-order.ensures;
  known = begun (EdgeAt c.args.topology.now) c.in_ok-order.order c.in_ok-searches.searches c.in_ok-searches.ensures;
}

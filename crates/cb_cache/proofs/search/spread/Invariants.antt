use Rattle.std.proofs.Common.{◌≡◌, ◌-◌, length}
use Rattle.cb_successors.specs.Rows.{ones}
use Rattle.cb_cache.proofs.Spreading.{IsSpread}
use Rattle.cb_cache.proofs.search.spread.Given as goal

abbrev pub invariant-loop-node : goal.invariant-loop-node
invariant-loop-node g l = record {
  same : l.graph ≡ l.initial.graph;
  joined : length l.joined.items ≡ length l.initial.joined.items;
  spread : IsSpread (g.G.Edges.edge l.initial.graph) (g.G.Edges.count l.initial.graph) l.initial.found l.initial.joined.items l.found l.done l.joined.items l.initial.steps l.steps;
}

abbrev pub decreases-loop-node : goal.decreases-loop-node
decreases-loop-node g l = length l.done - ones l.done

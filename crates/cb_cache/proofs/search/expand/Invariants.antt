use Rattle.std.proofs.Common.{◌≡◌, ◌≤◌, ◌-◌, length}
use Rattle.cb_cache.specs.Reached.{CountsOnly}
use Rattle.cb_cache.specs.Extended.{AddsBelow}
use Rattle.cb_cache.proofs.Expanding.{IsPassed}
use Rattle.cb_cache.proofs.search.expand.Given as goal

abbrev pub invariant-loop-node : goal.invariant-loop-node
invariant-loop-node g l = record {
  from : l.from ≤ length l.nodes;
  same : l.graph ≡ l.initial.graph;
  found : length l.found ≡ length l.initial.found;
  adds : AddsBelow (g.G.Edges.edge l.initial.graph) l.nodes l.words l.from l.initial.found l.found;
  cost : CountsOnly (IsPassed l.nodes l.words l.from) (g.G.Edges.count l.initial.graph) l.initial.steps l.steps;
}

abbrev pub decreases-loop-node : goal.decreases-loop-node
decreases-loop-node g l = length l.nodes - l.from

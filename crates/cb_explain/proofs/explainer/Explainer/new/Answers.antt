use Rattle.std.proofs.Common.{length, false, ap, ◌∙◌, arith}
use Rattle.std.proofs.lemmas.List.{length-replicate}
use Rattle.cb_breadth.proofs.Beginning.{begun}
use Rattle.cb_graph.specs.Edges.{EdgeAt}
use Rattle.cb_explain.proofs.explainer.Explainer.new.Goals as goal

pub returns : goal.returns
returns c = record {
  order = c.in_ok-order.ensures.order;
  whole = c.in_ok-order.ensures.whole;
  searches = begun (EdgeAt c.args.topology.now) c.in_ok-order.order c.in_ok-searches.searches c.in_ok-searches.ensures;
  size = let same = c.in_ok-positions.ensures.len in let count = c.len.ensures in omega (arith, c.in_ok-positions.positions.ok.0);
  marks = let count = c.len-2.ensures in let long = ap length c.in_ok-used.ensures ∙ length-replicate c.len-2.result false in omega (arith, c.in_ok-order.order.nodes.ok.0);
}

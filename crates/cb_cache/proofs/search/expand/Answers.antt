use Rattle.std.proofs.Common.{◌≡◌, ◌↔◌, ◌⊎◌, ℕ, true, refl, subst, ◌∙◌, arith}
use Rattle.cb_lanes.specs.Words.{bit_of}
use Rattle.cb_successors.specs.Rows.{Has}
use Rattle.cb_cache.proofs.Expanding.{adds_none, adds_more, passed_more}
use Rattle.cb_cache.proofs.Furthering.{has_low}
use Rattle.cb_cache.proofs.Spreading.{counts_none}
use Rattle.cb_cache.proofs.search.expand.Goals as goal

pub loop-node-init : goal.loop-node-init
loop-node-init g c = record {
  from = omega arith;
  same = refl;
  found = refl;
  adds = adds_none (g.G.Edges.edge c.args.graph.now) c.args.nodes.now c.args.words.now c.args.found.now;
  cost = counts_none _ (g.G.Edges.count c.args.graph.now) c.args.steps.now;
}

pub loop-node-preserved : goal.loop-node-preserved
loop-node-preserved g c =
    let kept = c.loop-node.invariant in
    let next = c.in-Some.ensures.next in
    let low = has_low c.args.nodes.now c.in-Some.node next.is in
    let added = subst (λ graph. (k : ℕ) → Has c.expand_one.new.found k ↔ (Has c.loop-node.found k ⊎ ((bit_of c.args.words.now c.in-Some.node ≡ true) × g.G.Edges.edge graph c.in-Some.node k)))
    kept.same c.expand_one.ensures.adds in
    record {
      from = omega arith;
      same = c.expand_one.ensures.same ∙ kept.same;
      found = c.expand_one.ensures.found ∙ kept.found;
      adds = adds_more (g.G.Edges.edge c.args.graph.now) c.args.nodes.now c.args.words.now c.loop-node.from c.in-Some.node next c.args.found.now c.loop-node.found c.expand_one.new.found kept.adds added;
      cost = passed_more (g.G.Edges.edge c.args.graph.now) c.args.nodes.now c.args.words.now c.loop-node.from c.in-Some.node next (g.G.Edges.count c.args.graph.now) c.args.steps.now c.loop-node.steps c.expand_one.new.steps
          kept.cost (let e = c.requires.nodes in omega arith) c.expand_one.ensures.step c.expand_one.ensures.free;
    }

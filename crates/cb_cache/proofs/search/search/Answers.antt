use Rattle.std.proofs.Common.{true, false, length, replicate, slice_set, ap, ◌∙◌}
use Rattle.std.proofs.lemmas.List.{length-replicate}
use Rattle.cb_cache.proofs.Spreading.{from_one, zeros_followed, counts_done}
use Rattle.cb_cache.proofs.search.search.Goals as goal

pub spread-requires-clause-followed : goal.spread-requires-clause-followed
spread-requires-clause-followed g c = zeros_followed _ _ _ _ c.wipe.ensures

pub returns-clause-met : goal.returns-clause-met
returns-clause-met g c = λ k.
    let is = c.set.ensures ∙ ap (λ row. slice_set row c.args.node true) (c.forget.ensures.found ∙ ap (λ n. replicate n false) c.requires.capacity.found) in
    let one = from_one (g.G.Edges.edge c.args.graph.now) (g.G.Edges.count c.args.graph.now) c.args.node _ c.set.new.self c.wipe.new.words.items is c.wipe.ensures c.requires.node k in
    (λ met. one.0 ((c.spread.ensures.met k).0 met), λ leads. (c.spread.ensures.met k).1 (one.1 leads))

pub returns-clause-cost : goal.returns-clause-cost
returns-clause-cost g c =
    counts_done c.spread.new.done c.wipe.new.words.items (g.G.Edges.count c.args.graph.now) c.args.steps.now c.spread.new.steps
    (c.spread.ensures.done ∙ ap length c.forget.ensures.done ∙ length-replicate (length c.args.scratch.now.done) false ∙ c.requires.capacity.done) c.spread.ensures.cost

use Rattle.std.proofs.Common.{◌≡◌, ◌↔◌, ℕ, List, true, sym, subst, ◌∙◌}
use Rattle.cb_lanes.specs.Words.{bit_of}
use Rattle.cb_pool.specs.Pool.{slot_row}
use Rattle.cb_successors.specs.Rows.{Has}
use Rattle.cb_cache.specs.Reached.{AreFollowed, IsMet, IsLedByMet, CountsOnly}
use Rattle.cb_cache.proofs.Furthering.{adds_first, begun_followed, led_by_words, counts_expanded}
use Rattle.cb_cache.proofs.search.search_further.Goals as goal

pub spread-requires-clause-followed : goal.spread-requires-clause-followed
spread-requires-clause-followed g c =
    let adds = adds_first (g.G.Edges.edge c.args.graph.now) c.args.touched.now c.row-row.result.now (slot_row c.args.pool.now c.args.slot) _ _ c.forget.new.scratch.found c.expand.new.found
    c.row-row.ensures.row.1 c.forget.ensures.found c.requires.capacity.found c.expand.ensures.adds in
    let row = c.copy.ensures ∙ c.row-row.ensures.row.1 in
    let followed = begun_followed (g.G.Edges.edge c.args.graph.now) (g.G.Edges.count c.args.graph.now) c.args.touched.now c.expand.new.found (slot_row c.args.pool.now c.args.slot) c.requires.touched
    adds c.requires.settled in
    subst (λ graph. AreFollowed (g.G.Edges.edge graph) c.expand.new.found c.copy.new.words.items) (sym c.expand.ensures.same)
    (subst (λ (words : List ℕ). AreFollowed (g.G.Edges.edge c.args.graph.now) c.expand.new.found words) (sym row) followed)

pub returns-clause-met : goal.returns-clause-met
returns-clause-met g c = λ k.
    let adds = adds_first (g.G.Edges.edge c.args.graph.now) c.args.touched.now c.row-row.result.now (slot_row c.args.pool.now c.args.slot) _ _ c.forget.new.scratch.found c.expand.new.found
    c.row-row.ensures.row.1 c.forget.ensures.found c.requires.capacity.found c.expand.ensures.adds in
    let row = c.copy.ensures ∙ c.row-row.ensures.row.1 in
    let edge = g.G.Edges.edge c.args.graph.now in
    let met = subst (λ (words : List ℕ). IsMet c.spread.new.found c.spread.new.joined.items k ↔ IsLedByMet edge c.expand.new.found words k) row
    (subst (λ graph. IsMet c.spread.new.found c.spread.new.joined.items k ↔ IsLedByMet (g.G.Edges.edge graph) c.expand.new.found c.copy.new.words.items k) c.expand.ensures.same (c.spread.ensures.met k)) in
    let by = led_by_words edge (g.G.Edges.count c.args.graph.now) c.args.touched.now c.expand.new.found (slot_row c.args.pool.now c.args.slot) c.requires.touched adds k in
    (λ is. by.0 (met.0 is), λ led. met.1 (by.1 led))

pub returns-clause-cost : goal.returns-clause-cost
returns-clause-cost g c =
    let adds = adds_first (g.G.Edges.edge c.args.graph.now) c.args.touched.now c.row-row.result.now (slot_row c.args.pool.now c.args.slot) _ _ c.forget.new.scratch.found c.expand.new.found
    c.row-row.ensures.row.1 c.forget.ensures.found c.requires.capacity.found c.expand.ensures.adds in
    let row = c.copy.ensures ∙ c.row-row.ensures.row.1 in
    let edge = g.G.Edges.edge c.args.graph.now in
    let count = g.G.Edges.count c.args.graph.now in
    let words = slot_row c.args.pool.now c.args.slot in
    let met = subst (λ (row : List ℕ). (k : ℕ) → IsMet c.spread.new.found c.spread.new.joined.items k ↔ IsLedByMet edge c.expand.new.found row k) row
    (subst (λ graph. (k : ℕ) → IsMet c.spread.new.found c.spread.new.joined.items k ↔ IsLedByMet (g.G.Edges.edge graph) c.expand.new.found c.copy.new.words.items k) c.expand.ensures.same c.spread.ensures.met) in
    let one = subst (λ (row : List ℕ). CountsOnly (λ k. Has c.args.touched.now k × (bit_of row k ≡ true)) count c.args.steps.now c.expand.new.steps) c.row-row.ensures.row.1 c.expand.ensures.cost in
    let other = subst (λ (row : List ℕ). CountsOnly (λ k. Has c.spread.new.done k × ¬ (bit_of row k ≡ true)) count c.expand.new.steps c.spread.new.steps) row
    (subst (λ graph. CountsOnly (λ k. Has c.spread.new.done k × ¬ (bit_of c.copy.new.words.items k ≡ true)) (g.G.Edges.count graph) c.expand.new.steps c.spread.new.steps) c.expand.ensures.same c.spread.ensures.cost) in
    counts_expanded edge count c.args.touched.now c.expand.new.found words c.requires.touched adds c.spread.new.found c.spread.new.done c.spread.new.joined.items
    c.args.steps.now c.expand.new.steps c.spread.new.steps met c.spread.ensures.within one other

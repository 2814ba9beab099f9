use Rattle.std.proofs.Common.{◌≡◌, ◌++◌, ◌∷◌, [], ◌+◌, ◌<◌, length, take, slice_index_or, sym, subst, ◌∙◌, arith}
use Rattle.std.proofs.lemmas.List.{take_more}
use Rattle.std.proofs.lemmas.List.Elements.{Contains-get_or}
use Rattle.cb_instances.proofs.Showing.{slot_within}
use Rattle.cb_nodes.specs.declared.id.NodeId.{NodeId}
use Rattle.cb_nodes.proofs.Listing.{not_before}
use Rattle.cb_topo.specs.Numbered.{Numbered, IsLiveNode}
use Rattle.cb_cache.specs.Kept.{HaveCapacity}
use Rattle.cb_cache.specs.Filled.{AddsRow, AddsRows, CostsAtMost, CostAtMost}
use Rattle.cb_cache.proofs.Filling.{rows_more, cost_more}
use Rattle.cb_cache.proofs.fill.add_rows.Goals as goal

pub add_row-requires-clause-live : goal.add_row-requires-clause-live
add_row-requires-clause-live g c =
    let zero : NodeId = record { 0 = 0 } in
    subst (λ (n : Numbered). IsLiveNode n (slice_index_or c.args.nodes.now c.loop-node.node-index zero)) (sym c.loop-node.invariant.same)
    (c.requires.live c.loop-node.node-index zero c.loop-node-test.true)

pub loop-node-preserved : goal.loop-node-preserved
loop-node-preserved g c =
    let zero : NodeId = record { 0 = 0 } in
    let n = c.args.graph.now in
    let ids = c.args.nodes.now in
    let i = c.loop-node.node-index in
    let id = slice_index_or ids i zero in
    let kept = c.loop-node.invariant in
    let more : take (i + 1) ids ≡ take i ids ++ id ∷ [] = take_more ids i zero c.loop-node-test.true in
    let live = c.requires.live i zero c.loop-node-test.true in
    let low : id.0 < length c.loop-node.rows.slots.items = (let e = slot_within n.nodes id.0 live.1.node live.1.is in let f = kept.capacity.slots in omega arith) in
    let adds : AddsRow n id.0 c.loop-node.rows.slots.items c.add_row.new.rows.slots.items c.loop-node.rows.pool c.add_row.new.rows.pool =
    subst (λ (m : Numbered). AddsRow m id.0 c.loop-node.rows.slots.items c.add_row.new.rows.slots.items c.loop-node.rows.pool c.add_row.new.rows.pool) kept.same c.add_row.ensures.adds in
    let cost : CostsAtMost n id c.loop-node.steps c.add_row.new.steps = subst (λ (m : Numbered). CostsAtMost m id c.loop-node.steps c.add_row.new.steps) kept.same c.add_row.ensures.cost in
    record {
      same = c.add_row.ensures.same ∙ kept.same;
      capacity = subst (λ (m : Numbered). HaveCapacity m c.add_row.new.rows) kept.same c.add_row.ensures.capacity;
      rows = subst (λ prefix. AddsRows n prefix c.args.rows.now.slots.items c.add_row.new.rows.slots.items c.args.rows.now.pool c.add_row.new.rows.pool) (sym more)
          (rows_more n (take i ids) id c.args.rows.now.slots.items c.loop-node.rows.slots.items c.add_row.new.rows.slots.items c.args.rows.now.pool c.loop-node.rows.pool c.add_row.new.rows.pool kept.rows
          (λ slot. c.requires.none id slot (Contains-get_or ids i zero c.loop-node-test.true)) (not_before ids i zero c.requires.once c.loop-node-test.true) low adds);
      spare = (let e = adds.spare in let f = kept.spare in omega arith);
      cost = subst (λ prefix. CostAtMost n prefix c.args.steps.now c.add_row.new.steps) (sym more)
          (cost_more n (take i ids) id cost.0 c.args.steps.now c.loop-node.steps c.add_row.new.steps kept.cost cost.1 cost.2);
    }

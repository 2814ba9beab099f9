use Rattle.std.proofs.Common.{◌/◌, ◌+◌, ◌-◌, ◌<◌, length, sym, ◌∙◌, arith}
use Rattle.std.proofs.lemmas.Bool.{false≢true}
use Rattle.cb_nodes.specs.declared.id.NodeId.{NodeId}
use Rattle.cb_topo.proofs.Rising.{low_half, high_half}
use Rattle.cb_topo.proofs.topology.Topology.position_of.Goals as goal

pub loop-low-preserved-then-is_before : goal.loop-low-preserved-then-is_before
loop-low-preserved-then-is_before c =
    let zero : NodeId = record { 0 = 0 } in
    let order = c.args.order.now in
    let low = c.loop-low.low in
    let high = c.loop-low.high in
    let some = c.loop-low-test.true in
    let within = c.loop-low.invariant.within in
    let middle = low + (high - low) / 2 in
    let inside : middle < length order = omega arith in
    record {
      order = omega arith;
      within = within;
      below = low_half c.args.self.now order c.requires.rising c.args.node middle zero inside (c.is_before.ensures.0 c.if-is_before.true);
      above = c.loop-low.invariant.above;
    }

pub loop-low-preserved : goal.loop-low-preserved
loop-low-preserved c =
    let zero : NodeId = record { 0 = 0 } in
    let order = c.args.order.now in
    let low = c.loop-low.low in
    let high = c.loop-low.high in
    let some = c.loop-low-test.true in
    let within = c.loop-low.invariant.within in
    let middle = low + (high - low) / 2 in
    let inside : middle < length order = omega arith in
    record {
      order = omega arith;
      within = omega arith;
      below = c.loop-low.invariant.below;
      above = high_half c.args.self.now order c.requires.rising c.args.node middle zero inside (λ is. false≢true (sym c.if-is_before.false ∙ c.is_before.ensures.1 is));
    }

use Rattle.std.proofs.Common.{◌≡◌, List, length, ap, sym, subst, ◌∙◌, arith}
use Rattle.std.specs.List.{All, Contains}
use Rattle.std.specs.List.Sorted.{IsPermutation}
use Rattle.std.proofs.lemmas.List.{length-replicate}
use Rattle.std.proofs.lemmas.List.Sorted.{Contains-permutation}
use Rattle.cb_bits.specs.Bits.{words_for}
use Rattle.cb_nodes.specs.declared.id.NodeId.{NodeId}
use Rattle.cb_topo.specs.Numbered.{Numbered, IsWhole, IsLiveNode}
use Rattle.cb_cache.specs.Capacity.{HasCapacityFor}
use Rattle.cb_cache.specs.Filled.{CostAtMost}
use Rattle.cb_cache.specs.Numbers.{AreOnce}
use Rattle.cb_cache.proofs.Opened.{no_slots_for, no_rows, none_apart}
use Rattle.cb_cache.proofs.Owned.{all_permuted, row_of_slot}
use Rattle.cb_cache.proofs.Permuted.{once_permuted}
use Rattle.cb_cache.proofs.rows.Rows.of.Goals as goal

pub add_rows-requires-clause-live : goal.add_rows-requires-clause-live
add_rows-requires-clause-live g c =
    let moved = subst (λ (xs : List NodeId). IsPermutation xs c.scatter.new.items.items) c.in_ok-order.ensures.items c.scatter.ensures.items in
    subst (λ (xs : List NodeId). All (IsLiveNode c.args.graph.now) xs) (sym c.deref.ensures.value)
    (all_permuted (IsLiveNode c.args.graph.now) c.args.nodes.now c.scatter.new.items.items moved c.requires.live)

pub add_rows-requires-clause-whole : goal.add_rows-requires-clause-whole
add_rows-requires-clause-whole g c = subst IsWhole c.topology.ensures c.node_capacity.ensures.whole

pub add_rows-requires-clause-once : goal.add_rows-requires-clause-once
add_rows-requires-clause-once g c =
    let moved = subst (λ (xs : List NodeId). IsPermutation xs c.scatter.new.items.items) c.in_ok-order.ensures.items c.scatter.ensures.items in
    subst AreOnce (sym c.deref.ensures.value) (once_permuted c.args.nodes.now c.scatter.new.items.items moved c.requires.once)

pub add_rows-requires-clause-none : goal.add_rows-requires-clause-none
add_rows-requires-clause-none g c = no_slots_for c.node_capacity.result c.in_ok-rows.rows.slots.items c.in_ok-rows.ensures.slots c.deref.result.now

pub add_rows-requires-clause-rows : goal.add_rows-requires-clause-rows
add_rows-requires-clause-rows g c = no_rows c.node_capacity.result c.in_ok-rows.rows.slots.items c.in_ok-rows.ensures.slots c.args.graph.now c.in_ok-rows.rows.pool

pub add_rows-requires-clause-apart : goal.add_rows-requires-clause-apart
add_rows-requires-clause-apart g c = none_apart c.node_capacity.result c.in_ok-rows.rows.slots.items c.in_ok-rows.ensures.slots

pub add_rows-requires-clause-capacity : goal.add_rows-requires-clause-capacity
add_rows-requires-clause-capacity g c =
    let all : c.node_capacity.result ≡ length c.args.graph.now.nodes = c.node_capacity.ensures.value ∙ ap (λ (m : Numbered). length m.nodes) c.topology.ensures in
    record {
      slots = ap length c.in_ok-rows.ensures.slots ∙ length-replicate c.node_capacity.result _ ∙ all;
      width = c.in_ok-rows.ensures.width ∙ ap words_for all;
      scratch = subst (λ capacity. HasCapacityFor capacity c.in_ok-rows.rows.scratch) all c.in_ok-rows.ensures.scratch;
    }

pub add_rows-requires-clause-spare : goal.add_rows-requires-clause-spare
add_rows-requires-clause-spare g c =
    let spare = c.in_ok-rows.ensures.spare in
    let long = c.len.ensures in
    let same = ap length c.deref.ensures.value in
    omega arith

pub returns-clause-rows : goal.returns-clause-rows
returns-clause-rows g c =
    let n = c.args.graph.now in
    let made = c.add_rows.new.rows in
    let order = c.scatter.new.items.items in
    let moved = subst (λ (xs : List NodeId). IsPermutation xs order) c.in_ok-order.ensures.items c.scatter.ensures.items in
    record {
      each = λ id has.
          let among = subst (λ (xs : List NodeId). Contains xs id) (sym c.deref.ensures.value) (Contains-permutation c.args.nodes.now order id moved has) in
          let slot = c.add_rows.ensures.rows.all id among in
          row_of_slot n made id slot.0 c.add_rows.ensures.rows.rows slot.1;
      width = c.add_rows.ensures.capacity.width;
    }

pub returns-clause-cost : goal.returns-clause-cost
returns-clause-cost g c =
    let order = c.scatter.new.items.items in
    record {
      order = order;
      permuted = subst (λ (xs : List NodeId). IsPermutation xs order) c.in_ok-order.ensures.items c.scatter.ensures.items;
      cost = subst (λ (xs : List NodeId). CostAtMost c.args.graph.now xs c.args.steps.now c.add_rows.new.steps) c.deref.ensures.value c.add_rows.ensures.cost;
    }

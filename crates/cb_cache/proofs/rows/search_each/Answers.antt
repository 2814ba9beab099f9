use Rattle.std.proofs.Common.{◌≤◌, List, length, ap, sym, subst, ◌∙◌, arith}
use Rattle.std.specs.Prelude.{vec_capacity}
use Rattle.std.specs.List.{All}
use Rattle.std.proofs.lemmas.List.{length-replicate}
use Rattle.cb_nodes.specs.declared.id.NodeId.{NodeId}
use Rattle.cb_topo.specs.Numbered.{Numbered, IsWhole, IsLiveNode}
use Rattle.cb_cache.specs.Filled.{AddsRows, CostAtMost}
use Rattle.cb_cache.specs.Numbers.{AreProblemNumbers, AreOnce}
use Rattle.cb_cache.proofs.Opened.{all_live, no_slot, no_slots_for, no_rows, none_apart, are_right, within_cost}
use Rattle.cb_cache.proofs.Gathered.{within_most}
use Rattle.cb_cache.proofs.Pooled.{none_taken}
use Rattle.cb_cache.proofs.rows.search_each.Goals as goal

pub list_problems-requires-clause-capacity : goal.list_problems-requires-clause-capacity
list_problems-requires-clause-capacity g c =
    let (count, most, empty) = c.requires in
    subst (λ (m : Numbered). length m.nodes ≤ vec_capacity c.args.store.now.agenda.problems) (sym c.topology.ensures) empty.agenda.listed

pub add_rows-requires-clause-live : goal.add_rows-requires-clause-live
add_rows-requires-clause-live g c =
    let n = c.args.graph.now in
    let ids = c.list_problems.new.list.items in
    let whole = subst IsWhole c.topology.ensures c.list_problems.ensures.whole in
    let are = subst (λ (m : Numbered). AreProblemNumbers m ids) c.topology.ensures c.list_problems.ensures.problems in
    subst (λ (xs : List NodeId). All (IsLiveNode n) xs) (sym c.deref.ensures.value) (all_live n whole ids are)

pub add_rows-requires-clause-whole : goal.add_rows-requires-clause-whole
add_rows-requires-clause-whole g c = subst IsWhole c.topology.ensures c.list_problems.ensures.whole

pub add_rows-requires-clause-once : goal.add_rows-requires-clause-once
add_rows-requires-clause-once g c =
    subst AreOnce (sym c.deref.ensures.value) c.list_problems.ensures.problems.once

pub add_rows-requires-clause-none : goal.add_rows-requires-clause-none
add_rows-requires-clause-none g c =
    let (count, most, empty) = c.requires in
    no_slots_for (length c.args.graph.now.nodes) c.args.store.now.rows.slots.items empty.rows.slots c.deref.result.now

pub add_rows-requires-clause-rows : goal.add_rows-requires-clause-rows
add_rows-requires-clause-rows g c =
    let (count, most, empty) = c.requires in
    no_rows (length c.args.graph.now.nodes) c.args.store.now.rows.slots.items empty.rows.slots c.args.graph.now c.args.store.now.rows.pool

pub add_rows-requires-clause-apart : goal.add_rows-requires-clause-apart
add_rows-requires-clause-apart g c =
    let (count, most, empty) = c.requires in
    none_apart (length c.args.graph.now.nodes) c.args.store.now.rows.slots.items empty.rows.slots

pub add_rows-requires-clause-capacity : goal.add_rows-requires-clause-capacity
add_rows-requires-clause-capacity g c =
    let (count, most, empty) = c.requires in
    let n = c.args.graph.now in
    record { slots = ap length empty.rows.slots ∙ length-replicate (length n.nodes) _; width = empty.rows.width; scratch = empty.rows.scratch }

pub add_rows-requires-clause-spare : goal.add_rows-requires-clause-spare
add_rows-requires-clause-spare g c =
    let (count, most, empty) = c.requires in
    let n = c.args.graph.now in
    let ids = c.list_problems.new.list.items in
    let whole = subst IsWhole c.topology.ensures c.list_problems.ensures.whole in
    let are = subst (λ (m : Numbered). AreProblemNumbers m ids) c.topology.ensures c.list_problems.ensures.problems in
    let few = within_most n whole ids count are most in
    let capacity = empty.rows.spare in
    let long = ap length c.deref.ensures.value in
    omega arith

pub returns-clause-kept : goal.returns-clause-kept
returns-clause-kept g c =
    let (count, most, empty) = c.requires in
    let n = c.args.graph.now in
    let ids = c.list_problems.new.list.items in
    let whole = subst IsWhole c.topology.ensures c.list_problems.ensures.whole in
    let are = subst (λ (m : Numbered). AreProblemNumbers m ids) c.topology.ensures c.list_problems.ensures.problems in
    let slots = c.args.store.now.rows.slots.items in
    let pool = c.args.store.now.rows.pool in
    let made = c.add_rows.new.rows in
    let rows = subst (λ (xs : List NodeId). AddsRows n xs slots made.slots.items pool made.pool) c.deref.ensures.value c.add_rows.ensures.rows in
    record {
      whole = whole;
      right = are_right n whole ids are slots made.slots.items pool made.pool (no_slot (length n.nodes) slots empty.rows.slots) (λ slot. none_taken pool slot empty.rows.taken) rows;
      capacity = c.add_rows.ensures.capacity;
      agenda = record {
        touched = empty.agenda.touched;
        listed = (let e = empty.agenda.listed in let f = c.list_problems.ensures.capacity in omega arith);
      };
    }

pub returns-clause-cost : goal.returns-clause-cost
returns-clause-cost g c =
    let n = c.args.graph.now in
    let ids = c.list_problems.new.list.items in
    let whole = subst IsWhole c.topology.ensures c.list_problems.ensures.whole in
    let are = subst (λ (m : Numbered). AreProblemNumbers m ids) c.topology.ensures c.list_problems.ensures.problems in
    let most = subst (λ (xs : List NodeId). CostAtMost n xs c.args.steps.now c.add_rows.new.steps) c.deref.ensures.value c.add_rows.ensures.cost in
    within_cost n whole ids are c.args.steps.now c.add_rows.new.steps most

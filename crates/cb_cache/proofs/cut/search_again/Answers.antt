use Rattle.std.proofs.Common.{◌≡◌, List, Bool, Option, ap, length, sym, subst, arith}
use Rattle.std.specs.List.Sorted.{IsPermutation}
use Rattle.std.proofs.lemmas.List.Sorted.{length_permutation}
use Rattle.cb_nodes.specs.declared.id.NodeId.{NodeId}
use Rattle.cb_pool.specs.declared.slot.Slot.{Slot}
use Rattle.cb_pool.specs.Pool.{Pool}
use Rattle.cb_topo.specs.Numbered.{Numbered}
use Rattle.cb_cache.specs.Stale.{TakesBack}
use Rattle.cb_cache.proofs.Cutting.{takes_permuted, listed_live, none_listed, kept_rows, kept_apart, right_again, within_cut}
use Rattle.cb_cache.proofs.cut.search_again.Goals as goal

-- what was taken back, by the list in the order in which it is searched from
module _ (n m : Numbered) (touched : List Bool) (slots : List (Option Slot)) (p : Pool) (kept_slots : List (Option Slot)) (mid : Pool) (ids order read : List NodeId) (same : m ≡ n)
    (permuted : IsPermutation ids order) (is : read ≡ order) (takes : TakesBack m touched slots p kept_slots mid ids) where
  taken_back : TakesBack n touched slots p kept_slots mid read
  taken_back = subst (λ (xs : List NodeId). TakesBack n touched slots p kept_slots mid xs) (sym is)
      (takes_permuted n touched slots p kept_slots mid ids order permuted (subst (λ (k : Numbered). TakesBack k touched slots p kept_slots mid ids) same takes))

pub add_rows-requires-clause-live : goal.add_rows-requires-clause-live
add_rows-requires-clause-live g c =
    let (old, edit, away, follows) = c.requires.follows in
    let n = c.args.graph.now in
    let rows = c.args.rows.now in
    let mid = c.take_back.new.rows in
    let read = c.deref.result.now in
    let takes = taken_back n c.topology-2.result.now c.args.touched.now rows.slots.items rows.pool mid.slots.items mid.pool c.take_back.new.problems.items c.scatter.new.items.items read
    c.topology-2.ensures c.scatter.ensures.items c.deref.ensures.value c.take_back.ensures.takes in
    listed_live old edit n c.args.touched.now rows.slots.items rows.pool follows away mid.slots.items mid.pool read takes

pub add_rows-requires-clause-once : goal.add_rows-requires-clause-once
add_rows-requires-clause-once g c =
    let n = c.args.graph.now in
    let rows = c.args.rows.now in
    let mid = c.take_back.new.rows in
    let read = c.deref.result.now in
    let takes = taken_back n c.topology-2.result.now c.args.touched.now rows.slots.items rows.pool mid.slots.items mid.pool c.take_back.new.problems.items c.scatter.new.items.items read
    c.topology-2.ensures c.scatter.ensures.items c.deref.ensures.value c.take_back.ensures.takes in
    takes.once

pub add_rows-requires-clause-none : goal.add_rows-requires-clause-none
add_rows-requires-clause-none g c =
    let (old, edit, away, follows) = c.requires.follows in
    let n = c.args.graph.now in
    let rows = c.args.rows.now in
    let mid = c.take_back.new.rows in
    let read = c.deref.result.now in
    let takes = taken_back n c.topology-2.result.now c.args.touched.now rows.slots.items rows.pool mid.slots.items mid.pool c.take_back.new.problems.items c.scatter.new.items.items read
    c.topology-2.ensures c.scatter.ensures.items c.deref.ensures.value c.take_back.ensures.takes in
    none_listed old edit n c.args.touched.now rows.slots.items rows.pool follows away mid.slots.items mid.pool read takes

pub add_rows-requires-clause-rows : goal.add_rows-requires-clause-rows
add_rows-requires-clause-rows g c =
    let (old, edit, away, follows) = c.requires.follows in
    let n = c.args.graph.now in
    let rows = c.args.rows.now in
    let mid = c.take_back.new.rows in
    let read = c.deref.result.now in
    let takes = taken_back n c.topology-2.result.now c.args.touched.now rows.slots.items rows.pool mid.slots.items mid.pool c.take_back.new.problems.items c.scatter.new.items.items read
    c.topology-2.ensures c.scatter.ensures.items c.deref.ensures.value c.take_back.ensures.takes in
    kept_rows old edit n c.args.touched.now rows.slots.items rows.pool follows away mid.slots.items mid.pool read takes

pub add_rows-requires-clause-apart : goal.add_rows-requires-clause-apart
add_rows-requires-clause-apart g c =
    let (old, edit, away, follows) = c.requires.follows in
    let n = c.args.graph.now in
    let rows = c.args.rows.now in
    let mid = c.take_back.new.rows in
    let read = c.deref.result.now in
    let takes = taken_back n c.topology-2.result.now c.args.touched.now rows.slots.items rows.pool mid.slots.items mid.pool c.take_back.new.problems.items c.scatter.new.items.items read
    c.topology-2.ensures c.scatter.ensures.items c.deref.ensures.value c.take_back.ensures.takes in
    kept_apart old edit n c.args.touched.now rows.slots.items rows.pool follows away mid.slots.items mid.pool read takes

pub add_rows-requires-clause-spare : goal.add_rows-requires-clause-spare
add_rows-requires-clause-spare g c =
    let long = ap length c.deref.ensures.value in
    let same = length_permutation c.take_back.new.problems.items c.scatter.new.items.items c.scatter.ensures.items in
    let few = c.take_back.ensures.spare in
    omega arith

pub returns-clause-right : goal.returns-clause-right
returns-clause-right g c =
    let (old, edit, away, follows) = c.requires.follows in
    let n = c.args.graph.now in
    let rows = c.args.rows.now in
    let mid = c.take_back.new.rows in
    let read = c.deref.result.now in
    let takes = taken_back n c.topology-2.result.now c.args.touched.now rows.slots.items rows.pool mid.slots.items mid.pool c.take_back.new.problems.items c.scatter.new.items.items read
    c.topology-2.ensures c.scatter.ensures.items c.deref.ensures.value c.take_back.ensures.takes in
    right_again old edit n c.args.touched.now rows.slots.items rows.pool follows away mid.slots.items mid.pool read takes c.add_rows.new.rows.slots.items c.add_rows.new.rows.pool
    c.add_rows.ensures.rows

pub returns-clause-cost : goal.returns-clause-cost
returns-clause-cost g c = λ old edit away follows.
    let n = c.args.graph.now in
    let rows = c.args.rows.now in
    let mid = c.take_back.new.rows in
    let read = c.deref.result.now in
    let takes = taken_back n c.topology-2.result.now c.args.touched.now rows.slots.items rows.pool mid.slots.items mid.pool c.take_back.new.problems.items c.scatter.new.items.items read
    c.topology-2.ensures c.scatter.ensures.items c.deref.ensures.value c.take_back.ensures.takes in
    within_cut old edit n c.args.touched.now rows.slots.items rows.pool follows away mid.slots.items mid.pool read takes c.args.steps.now c.add_rows.new.steps c.add_rows.ensures.cost

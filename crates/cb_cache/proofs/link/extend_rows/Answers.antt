use Rattle.std.proofs.Common.{ℕ, List, length, false, slice_index_or, refl, sym, ap, subst, ◌∙◌, arith}
use Rattle.cb_pool.specs.Pool.{slot_row}
use Rattle.cb_topo.specs.Numbered.{Numbered}
use Rattle.cb_graph.specs.Edges.{EdgeAt}
use Rattle.cb_cache.specs.Extended.{HasLed, CountsExpanded, IsSettledBut}
use Rattle.cb_cache.specs.Kept.{ScratchFits}
use Rattle.cb_cache.proofs.Extending.{within_link, none_extended, extended_past, extended_more}
use Rattle.cb_cache.proofs.Linked.{right_later, row_taken, settled_but, who_later}
use Rattle.cb_cache.proofs.Slots.{slot_at, no_slot_at, slot_low}
use Rattle.cb_cache.proofs.link.extend_rows.Goals as goal
use Rattle.cb_cache.proofs.link.extend_rows.Goals.{in-Some, in_default}

pub loop-place-init : goal.loop-place-init
loop-place-init g c = record {
  same = refl;
  capacity = c.requires.capacity;
  extended = none_extended c.args.graph.now c.args.touched.now c.args.slots.now c.args.pool.now c.args.steps.now;
}

pub extend_row-requires-clause-taken : goal.extend_row-requires-clause-taken
extend_row-requires-clause-taken g c =
    let (old, edit, linked) = c.requires.linked in
    let slot = c.in-Some.slot in
    let has = slot_at c.args.slots.now c.loop-place.place slot c.in-Some.is in
    ap (λ taken. slice_index_or taken slot.0 false) c.loop-place.invariant.extended.taken
    ∙ row_taken old c.args.graph.now edit c.args.touched.now c.args.slots.now c.args.pool.now linked c.loop-place.place slot has

pub extend_row-requires-clause-settled : goal.extend_row-requires-clause-settled
extend_row-requires-clause-settled g c =
    let (old, edit, linked) = c.requires.linked in
    let slot = c.in-Some.slot in
    let has = slot_at c.args.slots.now c.loop-place.place slot c.in-Some.is in
    let kept = c.loop-place.invariant in
    let same = kept.extended.left c.loop-place.place slot (omega arith) has in
    let settled = settled_but old c.args.graph.now edit c.args.touched.now c.args.slots.now c.args.pool.now linked c.loop-place.place slot has in
    subst (λ (n : Numbered). IsSettledBut (EdgeAt n) c.args.touched.now (slot_row c.loop-place.pool slot)) (sym kept.same)
    (subst (λ (words : List ℕ). IsSettledBut (EdgeAt c.args.graph.now) c.args.touched.now words) (sym same) settled)

pub loop-place-preserved : goal.loop-place-preserved
loop-place-preserved g c =
    let (old, edit, linked) = c.requires.linked in
    let n = c.args.graph.now in
    let touched = c.args.touched.now in
    let slots = c.args.slots.now in
    let p = c.args.pool.now in
    let place = c.loop-place.place in
    let kept = c.loop-place.invariant in
    elim c.match-slots-place.branch [
      | in-Some w ↦
          let slot = w.in-Some.slot in
          let has = slot_at slots place slot w.in-Some.is in
          let owner = who_later old n edit touched slots p linked place slot has in
          let now = w.extend_row.ensures in
          let led = subst (λ (m : Numbered). HasLed (EdgeAt m) w.extend_row.new.pool slot (slot_row c.loop-place.pool slot)) kept.same now.row in
          let cost = subst (λ (m : Numbered). CountsExpanded (EdgeAt m) touched (slot_row c.loop-place.pool slot) (length m.nodes) c.loop-place.steps w.extend_row.new.steps) kept.same now.cost in
          let capacity = subst (λ (m : Numbered). ScratchFits m w.extend_row.new.scratch) kept.same now.capacity in
          let next = extended_more n touched slots p linked.edited.whole_after linked.right.apart place slot has owner.0 owner.1 c.loop-place.pool w.extend_row.new.pool
          c.args.steps.now c.loop-place.steps w.extend_row.new.steps (length n.nodes) kept.extended now.width now.taken now.spare now.others led cost
          (λ i other its. row_taken old n edit touched slots p linked i other its) in
          rw (w.graph-is, w.pool-is, w.scratch-is, w.steps-is) (record { same = now.same ∙ kept.same; capacity = capacity; extended = next })
      | in_default w ↦
          let next = extended_past n touched slots p c.loop-place.pool place c.args.steps.now c.loop-place.steps (λ slot. no_slot_at slots place slot w.in_default.is) kept.extended in
          rw (w.graph-is, w.pool-is, w.scratch-is, w.steps-is) (record { same = kept.same; capacity = kept.capacity; extended = next })
    ]

pub returns-clause-right : goal.returns-clause-right
returns-clause-right g c =
    let (old, edit, linked) = c.requires.linked in
    right_later old c.args.graph.now edit c.args.touched.now c.args.slots.now c.args.pool.now linked c.loop-place.pool c.loop-place.invariant.extended.taken
    (λ i slot has. c.loop-place.invariant.extended.led i slot (let lt = slot_low c.args.slots.now i slot has in omega arith) has)

pub returns-clause-cost : goal.returns-clause-cost
returns-clause-cost g c = λ old edit linked.
    within_link old c.args.graph.now edit c.args.touched.now c.args.slots.now c.args.pool.now linked c.loop-place.pool
    (λ i slot has. c.loop-place.invariant.extended.led i slot (let lt = slot_low c.args.slots.now i slot has in omega arith) has)
    c.loop-place.place c.args.steps.now c.loop-place.steps c.loop-place.invariant.extended.cost (omega arith)

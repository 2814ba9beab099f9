use Rattle.std.proofs.Common.{◌<◌, ℕ, Some, refl, ◌∙◌, arith}
use Rattle.std.proofs.lemmas.Option.{slice_get_within}
use Rattle.cb_pool.specs.declared.slot.Slot.{Slot}
use Rattle.cb_pool.specs.Pool.{slot_row}
use Rattle.cb_graph.specs.Edges.{number}
use Rattle.cb_cache.specs.Reached.{HasSlot}
use Rattle.cb_cache.proofs.Stale.{back_more, all_back}
use Rattle.cb_cache.proofs.cut.take_back.Goals as goal

pub take_back_one-requires-clause-taken : goal.take_back_one-requires-clause-taken
take_back_one-requires-clause-taken c = λ slot has.
    let back = c.loop-place.invariant.back in
    let place = c.loop-place.place in
    ((back.rows place slot has (slot_row c.args.rows.now.pool slot)).1 (c.requires.taken place slot (back.had place slot has), refl)).0

pub loop-place-preserved : goal.loop-place-preserved
loop-place-preserved c =
    let kept = c.loop-place.invariant in
    let place = c.loop-place.place in
    let one = c.take_back_one.ensures in
    let first = c.args.rows.now in
    let now = c.take_back_one.new.rows in
    record {
      back = back_more c.args.topology.now c.args.touched.now place (number place) refl first.slots.items first.pool c.requires.apart c.requires.taken c.loop-place.rows.slots.items
          c.loop-place.rows.pool c.loop-place.problems.items kept.back now.slots.items now.pool c.take_back_one.new.problems.items one.takes;
      length_is = one.length ∙ kept.length_is;
      width = one.width ∙ kept.width;
      spare = (let a = one.spare in let b = kept.spare in omega arith);
      few = (let a = one.few in let b = kept.few in omega arith);
      scratch = one.scratch ∙ kept.scratch;
      listed = one.listed ∙ kept.listed;
    }

pub returns-clause-takes : goal.returns-clause-takes
returns-clause-takes c =
    let first = c.args.rows.now in
    let place = c.loop-place.place in
    let all : (i : ℕ) (slot : Slot) → HasSlot first.slots.items i slot → i < place = λ i slot has.
    let low = slice_get_within first.slots.items i (Some slot) has in
    let long = c.len-place-end.ensures in
    let over = c.loop-place-test.false in
    let ok = first.slots.ok.0 in
    omega arith in
    all_back c.args.topology.now c.args.touched.now place first.slots.items first.pool c.loop-place.rows.slots.items c.loop-place.rows.pool c.loop-place.problems.items
    c.loop-place.invariant.back all

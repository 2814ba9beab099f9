use Rattle.std.proofs.Common.{refl, arith}
use Rattle.cb_lanes.proofs.NextBits.{none_here, first_here, in_word}
use Rattle.cb_lanes.proofs.seek.next_in_a_not_b.Goals as goal

pub overflow_add-result : goal.overflow_add-result
overflow_add-result c =
    let within = in_word c.args.a.now c.args.b.now c.args.from c.loop-i.i c.max-start.result _ (c.type_inv.a c.loop-i.i) (let f = c.type_inv.b c.loop-i.i in omega arith) refl c.loop-i.auto.i c.max-start.ensures c.loop-i.invariant (let some = c.if-left-ne0.true in omega arith) in
    let few = c.requires.few in
    let lt = c.loop-i-test.true in
    omega arith

pub returns-then-left-ne0-clause-next : goal.returns-then-left-ne0-clause-next
returns-then-left-ne0-clause-next c =
    first_here c.args.a.now c.args.b.now c.args.from c.loop-i.i c.max-start.result _ (c.type_inv.a c.loop-i.i) (let f = c.type_inv.b c.loop-i.i in omega arith) refl c.loop-i.auto.i c.max-start.ensures c.loop-i.invariant (let some = c.if-left-ne0.true in omega arith)

pub loop-i-preserved : goal.loop-i-preserved
loop-i-preserved c =
    none_here c.args.a.now c.args.b.now c.args.from c.loop-i.i c.max-start.result _ (c.type_inv.a c.loop-i.i) (let f = c.type_inv.b c.loop-i.i in omega arith) refl c.loop-i.auto.i c.max-start.ensures c.loop-i.invariant c.if-left-ne0.false

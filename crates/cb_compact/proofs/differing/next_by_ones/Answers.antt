use Rattle.std.proofs.Common.{sym, ◌∙◌, arith}
use Rattle.cb_compact.proofs.Cursors.{stays, differs_by, lowest, none_left, differ_there, none_through, none_further}
use Rattle.cb_compact.proofs.differing.next_by_ones.Goals as goal

pub pass-is-requires : goal.pass-is-requires
pass-is-requires c =
    let v = c.args.left.now in
    let w = c.args.right.now in
    let was = c.loop-place.invariant in
    let start = c.loop-place.from in
    let one = c.loop-place.one.next in
    let other = c.loop-place.other.next in
    let low = lowest v w start one other c.in-Some.place was.one.cursor was.other.cursor (sym c.lower.ensures ∙ c.in-Some.is) in
    stays v start c.in-Some.place c.loop-place.one.before one low.on low.left was.one

pub pass-too-requires : goal.pass-too-requires
pass-too-requires c =
    let v = c.args.left.now in
    let w = c.args.right.now in
    let was = c.loop-place.invariant in
    let start = c.loop-place.from in
    let one = c.loop-place.one.next in
    let other = c.loop-place.other.next in
    let low = lowest v w start one other c.in-Some.place was.one.cursor was.other.cursor (sym c.lower.ensures ∙ c.in-Some.is) in
    stays w start c.in-Some.place c.loop-place.other.before other low.on low.right was.other

pub overflow_add-from : goal.overflow_add-from
overflow_add-from c =
    let v = c.args.left.now in
    let w = c.args.right.now in
    let was = c.loop-place.invariant in
    let start = c.loop-place.from in
    let one = c.loop-place.one.next in
    let other = c.loop-place.other.next in
    let low = lowest v w start one other c.in-Some.place was.one.cursor was.other.cursor (sym c.lower.ensures ∙ c.in-Some.is) in
    let lt = low.within c.requires.same in
    let long = c.len-len.ensures in
    omega arith

pub returns-then-is-too-clause-next : goal.returns-then-is-too-clause-next
returns-then-is-too-clause-next c =
    let v = c.args.left.now in
    let w = c.args.right.now in
    let was = c.loop-place.invariant in
    let start = c.loop-place.from in
    let one = c.loop-place.one.next in
    let other = c.loop-place.other.next in
    let low = lowest v w start one other c.in-Some.place was.one.cursor was.other.cursor (sym c.lower.ensures ∙ c.in-Some.is) in
    differ_there v w c.args.from.now start c.in-Some.place was.on was.none low (differs_by v w c.in-Some.place c.pass-is.result c.pass-too.result c.pass-is.ensures.is c.pass-too.ensures.is ∙ c.if-is-too.true)

pub loop-place-smaller : goal.loop-place-smaller
loop-place-smaller c =
    let v = c.args.left.now in
    let w = c.args.right.now in
    let was = c.loop-place.invariant in
    let start = c.loop-place.from in
    let one = c.loop-place.one.next in
    let other = c.loop-place.other.next in
    let low = lowest v w start one other c.in-Some.place was.one.cursor was.other.cursor (sym c.lower.ensures ∙ c.in-Some.is) in
    let on = low.on in
    let lt = low.within c.requires.same in
    omega arith

pub loop-place-preserved : goal.loop-place-preserved
loop-place-preserved c =
    let v = c.args.left.now in
    let w = c.args.right.now in
    let was = c.loop-place.invariant in
    let start = c.loop-place.from in
    let one = c.loop-place.one.next in
    let other = c.loop-place.other.next in
    let low = lowest v w start one other c.in-Some.place was.one.cursor was.other.cursor (sym c.lower.ensures ∙ c.in-Some.is) in
    let on = low.on in
    let le = was.on in
    record {
      on = omega arith;
      none = none_through v w c.args.from.now start c.in-Some.place was.on was.none low (differs_by v w c.in-Some.place c.pass-is.result c.pass-too.result c.pass-is.ensures.is c.pass-too.ensures.is ∙ c.if-is-too.false);
      one = c.pass-is.ensures.cursor;
      other = c.pass-too.ensures.cursor;
    }

pub returns-clause-none : goal.returns-clause-none
returns-clause-none c =
    let v = c.args.left.now in
    let w = c.args.right.now in
    let was = c.loop-place.invariant in
    let start = c.loop-place.from in
    let one = c.loop-place.one.next in
    let other = c.loop-place.other.next in
    none_further v w c.args.from.now start was.none (none_left v w start one other was.one.cursor was.other.cursor (sym c.lower.ensures ∙ c.in_default.is))

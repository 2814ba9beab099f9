use Rattle.std.proofs.Common.{length, sym, ap, ◌∙◌, arith}
use Rattle.cb_compact.proofs.Counting.{next_alike, none_alike, differ_within, under_before, under_with_one, under_with_none, under_to_end}
use Rattle.cb_compact.proofs.counted.count_under.Goals as goal

pub loop-place-preserved-then-get : goal.loop-place-preserved-then-get
loop-place-preserved-then-get c =
    let v = c.args.left.now in
    let w = c.args.right.now in
    let was = c.loop-place.invariant in
    let found = c.in-Some.ensures in
    let next = next_alike c.loop-place.places.left.now c.loop-place.places.right.now v w c.loop-place.places.from c.in-Some.place was.left was.right found.next in
    let on = next.on in
    let is = was.is in
    let few = was.few in
    let from = found.from in
    let lt = differ_within v w c.requires.same c.in-Some.place next.is in
    let more = under_with_one c.args.mask.now v w c.loop-place.places.from c.in-Some.place next (sym c.get.ensures ∙ c.if-get.true) in
    let whole = ap (under_before c.args.mask.now v w) from in
    record { left = found.left ∙ was.left; right = found.right ∙ was.right; course = found.course; is = omega arith; few = omega arith; within = omega arith }

pub loop-place-preserved : goal.loop-place-preserved
loop-place-preserved c =
    let v = c.args.left.now in
    let w = c.args.right.now in
    let was = c.loop-place.invariant in
    let found = c.in-Some.ensures in
    let next = next_alike c.loop-place.places.left.now c.loop-place.places.right.now v w c.loop-place.places.from c.in-Some.place was.left was.right found.next in
    let on = next.on in
    let is = was.is in
    let few = was.few in
    let from = found.from in
    let lt = differ_within v w c.requires.same c.in-Some.place next.is in
    let same = under_with_none c.args.mask.now v w c.loop-place.places.from c.in-Some.place next (sym c.get.ensures ∙ c.if-get.false) in
    let whole = ap (under_before c.args.mask.now v w) from in
    record { left = found.left ∙ was.left; right = found.right ∙ was.right; course = found.course; is = omega arith; few = omega arith; within = omega arith }

pub returns : goal.returns
returns c =
    let v = c.args.left.now in
    let w = c.args.right.now in
    let mask = c.args.mask.now in
    let was = c.loop-place.invariant in
    let none = none_alike c.loop-place.places.left.now c.loop-place.places.right.now v w c.loop-place.places.from was.left was.right c.in_default.ensures.none in
    let within = was.within in
    let masked = c.requires.masked in
    was.is ∙ sym (under_to_end mask v w c.loop-place.places.from (length mask) (omega arith) none)

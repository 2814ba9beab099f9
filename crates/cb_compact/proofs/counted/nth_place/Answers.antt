use Rattle.std.proofs.Common.{◌-◌, ap, ◌∙◌, arith}
use Rattle.cb_compact.specs.Compact.{differing_before}
use Rattle.cb_compact.proofs.Counting.{next_alike, none_alike, before_next, with_next, before_end, none_between}
use Rattle.cb_compact.proofs.counted.nth_place.Goals as goal

pub returns-then-before-place-clause-none : goal.returns-then-before-place-clause-none
returns-then-before-place-clause-none c =
    let v = c.args.left.now in
    let w = c.args.right.now in
    let was = c.loop-place.invariant in
    let from = c.loop-place.places.from in
    let next = next_alike c.loop-place.places.left.now c.loop-place.places.right.now v w from c.in-Some.place was.left was.right c.in-Some.ensures.next in
    let le = was.before in
    let fewer = was.fewer in
    let is = was.is in
    let late = c.if-before-place.true in
    let same = none_between v w (c.args.before - from) from c.args.before (omega arith) (λ k on lt. next.first k on (omega arith)) in
    omega arith

pub returns-then-found-n-clause-nth : goal.returns-then-found-n-clause-nth
returns-then-found-n-clause-nth c =
    let v = c.args.left.now in
    let w = c.args.right.now in
    let was = c.loop-place.invariant in
    let from = c.loop-place.places.from in
    let next = next_alike c.loop-place.places.left.now c.loop-place.places.right.now v w from c.in-Some.place was.left was.right c.in-Some.ensures.next in
    let is = was.is in
    let last = c.if-found-n.true in
    let same = before_next v w from c.in-Some.place next in
    omega arith

pub loop-place-preserved : goal.loop-place-preserved
loop-place-preserved c =
    let v = c.args.left.now in
    let w = c.args.right.now in
    let was = c.loop-place.invariant in
    let from = c.loop-place.places.from in
    let found = c.in-Some.ensures in
    let next = next_alike c.loop-place.places.left.now c.loop-place.places.right.now v w from c.in-Some.place was.left was.right found.next in
    let is = was.is in
    let fewer = was.fewer in
    let other = c.if-found-n.false in
    let early = c.if-before-place.false in
    let to = found.from in
    let more = with_next v w from c.in-Some.place next in
    let whole = ap (λ n. differing_before n v w) to in
    record { left = found.left ∙ was.left; right = found.right ∙ was.right; course = found.course; is = omega arith; fewer = omega arith; before = omega arith }

pub returns-clause-none : goal.returns-clause-none
returns-clause-none c =
    let v = c.args.left.now in
    let w = c.args.right.now in
    let was = c.loop-place.invariant in
    let from = c.loop-place.places.from in
    let none = none_alike c.loop-place.places.left.now c.loop-place.places.right.now v w from was.left was.right c.in_default.ensures.none in
    let is = was.is in
    let fewer = was.fewer in
    let same = before_end v w from c.args.before was.before none in
    omega arith

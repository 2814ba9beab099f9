use Rattle.std.proofs.Common.{length, ◌+◌, ◌-◌, ap, ◌∙◌, sym, subst, ◌<◌, arith}
use Rattle.cb_compact.specs.Compact.{differing_before}
use Rattle.cb_compact.proofs.Counting.{next_alike, none_alike, differ_within, with_next, before_end, no_fewer}
use Rattle.cb_compact.proofs.counted.count_below.Goals as goal

pub returns-then-count-limit : goal.returns-then-count-limit
returns-then-count-limit c =
    let v = c.args.left.now in
    let w = c.args.right.now in
    let was = c.loop-count.invariant in
    let from = c.loop-count.places.from in
    let k = c.in-Some.field-0 in
    let next = next_alike c.loop-count.places.left.now c.loop-count.places.right.now v w from k was.left was.right c.in-Some.ensures.next in
    let is = was.is in
    let last = c.if-count-limit.true in
    let lt = differ_within v w c.requires k next.is in
    let more = with_next v w from k next in
    let rest = no_fewer v w (length v - (k + 1)) (k + 1) (length v) (omega arith) in
    λ below. omega arith

pub loop-count-preserved : goal.loop-count-preserved
loop-count-preserved c =
    let v = c.args.left.now in
    let w = c.args.right.now in
    let was = c.loop-count.invariant in
    let from = c.loop-count.places.from in
    let found = c.in-Some.ensures in
    let k = c.in-Some.field-0 in
    let next = next_alike c.loop-count.places.left.now c.loop-count.places.right.now v w from k was.left was.right found.next in
    let is = was.is in
    let few = was.few in
    let other = c.if-count-limit.false in
    let to = found.from in
    let lt = differ_within v w c.requires k next.is in
    let more = with_next v w from k next in
    let whole = ap (λ n. differing_before n v w) to in
    record { left = found.left ∙ was.left; right = found.right ∙ was.right; course = found.course; is = omega arith; few = omega arith; within = omega arith }

pub returns : goal.returns
returns c =
    let v = c.args.left.now in
    let w = c.args.right.now in
    let was = c.loop-count.invariant in
    let from = c.loop-count.places.from in
    let none = none_alike c.loop-count.places.left.now c.loop-count.places.right.now v w from was.left was.right c.in_default.ensures.none in
    let whole = was.is ∙ sym (before_end v w from (length v) was.within none) in
    (subst (λ n. n < c.args.limit) whole was.few, whole)

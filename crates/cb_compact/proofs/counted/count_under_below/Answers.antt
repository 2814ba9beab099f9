use Rattle.std.proofs.Common.{length, ◌<◌, ◌+◌, ◌-◌, sym, ap, subst, ◌∙◌, arith}
use Rattle.cb_compact.proofs.Counting.{next_alike, none_alike, differ_within, under_before, under_with_one, under_with_none, under_no_fewer, under_to_end}
use Rattle.cb_compact.proofs.counted.count_under_below.Goals as goal

pub returns-then-count-limit : goal.returns-then-count-limit
returns-then-count-limit c =
    let v = c.args.left.now in
    let w = c.args.right.now in
    let mask = c.args.mask.now in
    let was = c.loop-place.invariant in
    let from = c.loop-place.places.from in
    let k = c.in-Some.place in
    let next = next_alike c.loop-place.places.left.now c.loop-place.places.right.now v w from k was.left was.right c.in-Some.ensures.next in
    let is = was.is in
    let last = c.if-count-limit.true in
    let masked = c.requires.masked in
    let lt = differ_within v w c.requires.same k next.is in
    let more = under_with_one mask v w from k next (sym c.get.ensures ∙ c.if-not-get.false) in
    let rest = under_no_fewer mask v w (length mask - (k + 1)) (k + 1) (length mask) (omega arith) in
    λ below. omega arith

pub loop-place-preserved : goal.loop-place-preserved
loop-place-preserved c =
    let v = c.args.left.now in
    let w = c.args.right.now in
    let mask = c.args.mask.now in
    let was = c.loop-place.invariant in
    let found = c.in-Some.ensures in
    let from = c.loop-place.places.from in
    let k = c.in-Some.place in
    let next = next_alike c.loop-place.places.left.now c.loop-place.places.right.now v w from k was.left was.right found.next in
    let is = was.is in
    let few = was.few in
    let other = c.if-count-limit.false in
    let to = found.from in
    let lt = differ_within v w c.requires.same k next.is in
    let more = under_with_one mask v w from k next (sym c.get.ensures ∙ c.if-not-get.false) in
    let whole = ap (under_before mask v w) to in
    record { left = found.left ∙ was.left; right = found.right ∙ was.right; course = found.course; is = omega arith; few = omega arith; within = omega arith }

pub loop-place-preserved-then-not-get : goal.loop-place-preserved-then-not-get
loop-place-preserved-then-not-get c =
    let v = c.args.left.now in
    let w = c.args.right.now in
    let mask = c.args.mask.now in
    let was = c.loop-place.invariant in
    let found = c.in-Some.ensures in
    let from = c.loop-place.places.from in
    let k = c.in-Some.place in
    let next = next_alike c.loop-place.places.left.now c.loop-place.places.right.now v w from k was.left was.right found.next in
    let is = was.is in
    let few = was.few in
    let to = found.from in
    let lt = differ_within v w c.requires.same k next.is in
    let same = under_with_none mask v w from k next (sym c.get.ensures ∙ c.if-not-get.true) in
    let whole = ap (under_before mask v w) to in
    record { left = found.left ∙ was.left; right = found.right ∙ was.right; course = found.course; is = omega arith; few = omega arith; within = omega arith }

pub returns : goal.returns
returns c =
    let v = c.args.left.now in
    let w = c.args.right.now in
    let mask = c.args.mask.now in
    let was = c.loop-place.invariant in
    let from = c.loop-place.places.from in
    let none = none_alike c.loop-place.places.left.now c.loop-place.places.right.now v w from was.left was.right c.in_default.ensures.none in
    let within = was.within in
    let masked = c.requires.masked in
    let whole = was.is ∙ sym (under_to_end mask v w from (length mask) (omega arith) none) in
    (subst (λ n. n < c.args.limit) whole was.few, whole)

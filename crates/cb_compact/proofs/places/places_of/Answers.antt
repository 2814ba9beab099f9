use Rattle.std.proofs.Common.{◌∙◌, arith}
use Rattle.cb_compact.proofs.Numbers.{next_comes, none_comes}
use Rattle.cb_compact.proofs.Ones.{one_within}
use Rattle.cb_compact.proofs.places.places_of.Goals as goal

pub loop-place-preserved : goal.loop-place-preserved
loop-place-preserved c =
    let next = c.in-Some.ensures.next in
    let lt = one_within c.args.row.now c.in-Some.place next.is in
    (c.in_ok-push.ensures.items ∙ next_comes c.args.row.now c.loop-place.places.items c.loop-place.from c.in-Some.place c.loop-place.invariant.0 next, omega arith)

pub returns : goal.returns
returns c = none_comes c.args.row.now c.loop-place.places.items c.loop-place.from c.loop-place.invariant.0 c.loop-place.invariant.1 c.in_default.ensures.none

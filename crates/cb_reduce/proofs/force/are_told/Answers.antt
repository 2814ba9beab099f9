use Rattle.std.proofs.Common.{below_more, ◌≤◌, refl}
use Rattle.cb_coding.specs.Distance.{all_columns, apart}
use Rattle.cb_reduce.specs.Places.{kept_of}
use Rattle.cb_reduce.proofs.force.are_told.Goals as goal

pub loop-place-preserved : goal.loop-place-preserved
loop-place-preserved c =
    let codes = c.args.codes.now in
    below_more (λ i. apart (all_columns codes.width) codes.rows 0 i ≤ apart (kept_of c.args.marked.now) codes.rows 0 i) c.loop-place.place
    c.loop-place.invariant (c.if-not-is_told.ensures refl)

use Rattle.cb_session.proofs.Radii.{next_extremes}
use Rattle.cb_session.proofs.extremes.least_and_greatest.Goals as goal

pub loop-radius-preserved : goal.loop-radius-preserved
loop-radius-preserved c =
    next_extremes c.args.radii.now c.as_slice-radius-items.result.now c.loop-radius.radius-index c.loop-radius.least c.loop-radius.greatest c.min-least.result
    c.max-greatest.result c.as_slice-radius-items.ensures c.loop-radius-test.true c.min-least.ensures c.max-greatest.ensures c.loop-radius.invariant

use Rattle.std.proofs.Common.{◌≤◌, length, arith}
use Rattle.cb_explain.proofs.Judging.{deepest_more, all_deep}
use Rattle.cb_explain.proofs.checking.deepest.Goals as goal

pub loop-position-preserved : goal.loop-position-preserved
loop-position-preserved c =
    deepest_more c.args.levels.now c.loop-position.position c.loop-position.deepest c.max-deepest.result c.at.result.now c.loop-position.invariant c.at.ensures c.max-deepest.ensures

pub returns : goal.returns
returns c =
    let end : length c.args.levels.now.entries ≤ c.loop-position.position = omega (arith, c.loop-position-test.false) in
    all_deep c.args.levels.now c.loop-position.position c.loop-position.deepest end c.requires c.loop-position.invariant

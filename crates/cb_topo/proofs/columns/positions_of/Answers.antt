use Rattle.std.proofs.Common.{arith}
use Rattle.cb_topo.proofs.Positions.{one_more_position, all_positions}
use Rattle.cb_topo.proofs.columns.positions_of.Goals as goal

pub loop-position-preserved : goal.loop-position-preserved
loop-position-preserved c =
    one_more_position c.args.capacity c.args.nodes.now c.loop-position.position c.loop-position.positions.items c.at.result.now c.requires.once c.requires.below c.loop-position.invariant c.at.ensures

pub returns : goal.returns
returns c =
    all_positions c.args.capacity c.args.nodes.now c.loop-position.position c.loop-position.positions.items (omega (arith, c.loop-position-test.false, c.len-position-end.ensures)) c.loop-position.invariant

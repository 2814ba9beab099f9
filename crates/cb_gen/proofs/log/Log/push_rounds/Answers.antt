use Rattle.std.proofs.Common.{arith}
use Rattle.cb_gen.specs.Log.{round, rounds}
use Rattle.cb_gen.proofs.Going.{rounds_repeat, left_more, left_none}
use Rattle.cb_gen.proofs.log.Log.push_rounds.Goals as goal

pub loop-preserved : goal.loop-preserved
loop-preserved c = (
  left_more c.args.sites c.args.self.now c.loop.self c.push_round.new.self rounds round c.args.count c.loop.counter rounds_repeat
      c.loop-test.true (c.loop.invariant.0) c.in_ok-push_round.ensures.lines,
  omega (arith, c.loop.invariant.1, c.in_ok-push_round.ensures.time),
)

pub returns : goal.returns
returns c =
    left_none c.args.sites c.args.self.now c.loop.self rounds round c.args.count c.loop.counter rounds_repeat
    (omega (arith, c.loop-test.false)) (c.loop.invariant.0)

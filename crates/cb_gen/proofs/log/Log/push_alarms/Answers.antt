use Rattle.std.proofs.Common.{arith, replicate, [], ◌∷◌}
use Rattle.cb_gen.specs.Log.{Alarm}
use Rattle.cb_gen.proofs.Going.{alike, left_more, alarm_goes}
use Rattle.cb_gen.proofs.log.Log.push_alarms.Goals as goal

pub loop-preserved : goal.loop-preserved
loop-preserved c = (
  left_more c.args.sites c.args.self.now c.loop.self c.push_drawn_alarm.new.self (λ n. replicate n Alarm) (Alarm ∷ []) c.args.count c.loop.counter (alike Alarm)
      c.loop-test.true (c.loop.invariant.0) (alarm_goes c.args.sites c.loop.self c.push_drawn_alarm.new.self c.in_ok-push_drawn_alarm.ensures.text
      c.in_ok-push_drawn_alarm.ensures.time c.in_ok-push_drawn_alarm.ensures.state),
  omega (arith, c.loop.invariant.1, c.in_ok-push_drawn_alarm.ensures.time),
)

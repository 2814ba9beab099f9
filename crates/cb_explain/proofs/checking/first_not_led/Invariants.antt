use Rattle.cb_explain.specs.Checking.{AreMarkedLed}
use Rattle.cb_explain.proofs.checking.first_not_led.Given as goal

abbrev pub invariant-loop-position : goal.invariant-loop-position
invariant-loop-position l = AreMarkedLed l.led l.position

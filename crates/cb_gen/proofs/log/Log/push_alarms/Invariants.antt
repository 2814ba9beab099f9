use Rattle.std.proofs.Common.{◌≡◌, ◌+◌, replicate}
use Rattle.cb_gen.specs.Log.{Alarm}
use Rattle.cb_gen.proofs.Going.{IsLeft}
use Rattle.cb_gen.proofs.log.Log.push_alarms.Given as goal

abbrev pub invariant-loop : goal.invariant-loop
invariant-loop l = IsLeft l.sites l.fn.self l.self (λ n. replicate n Alarm) l.count l.counter × (l.self.at ≡ l.fn.self.at + l.counter)

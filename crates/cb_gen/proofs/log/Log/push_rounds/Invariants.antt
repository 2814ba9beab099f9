use Rattle.std.proofs.Common.{◌≡◌, ◌*◌}
use Rattle.cb_gen.specs.Log.{rounds}
use Rattle.cb_gen.proofs.Going.{IsLeft}
use Rattle.cb_gen.proofs.log.Log.push_rounds.Given as goal

abbrev pub invariant-loop : goal.invariant-loop
invariant-loop l = IsLeft l.sites l.fn.self l.self rounds l.count l.counter × (l.self.at ≡ l.counter * 190)

use Rattle.std.proofs.Common.{◌≡◌, ◌+◌}
use Rattle.cb_lexer.specs.Places.{IsSpot}
use Rattle.cb_lexer.proofs.found.spot_after.Given as goal

abbrev pub invariant-loop : goal.invariant-loop
invariant-loop l = IsSpot l.text l.spot × (l.spot.at ≡ l.fn.from.at + l.counter)

use Rattle.std.proofs.Common.{◌≡◌, map, take}
use Rattle.cb_chains.specs.Kept.{place_at}
use Rattle.cb_chains.proofs.kept.places_of.Given as goal

abbrev pub invariant-loop-at : goal.invariant-loop-at
invariant-loop-at l = l.found.items ≡ map (place_at l.places) (take l.at l.positions)

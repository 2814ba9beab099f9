use Rattle.std.proofs.Common.{◌≡◌, length}
use Rattle.cb_distance.specs.Chosen.{ArePlacesBelow}
use Rattle.cb_distance.proofs.chosen.places_of.Given as goal

abbrev pub invariant-loop-place : goal.invariant-loop-place
invariant-loop-place l = (length l.places.items ≡ l.width) × ArePlacesBelow l.columns l.place l.places.items

use Rattle.cb_checker.specs.Places.{IsPlaceOf}
use Rattle.cb_checker.proofs.Naming.{Zipped}
use Rattle.cb_checker.proofs.places.places_of.Given as goal

abbrev pub invariant-loop-place : goal.invariant-loop-place
invariant-loop-place l = Zipped (λ place number. IsPlaceOf l.all l.ids number place) l.place l.places.items l.numbers

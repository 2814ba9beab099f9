use Rattle.std.proofs.Common.{◌≡◌, length, ◌∙◌, arith}
use Rattle.std.specs.Prelude.{slice_index_or}
use Rattle.std.proofs.lemmas.Option.{slice_get-get_or}
use Rattle.cb_checker.specs.Places.{IsPlaceOf}
use Rattle.cb_checker.proofs.Naming.{zipped_more, zip_each}
use Rattle.cb_checker.proofs.places.places_of.Goals as goal

pub place_of-requires : goal.place_of-requires
place_of-requires c =
    let numbers = c.args.numbers.now in
    record { there = c.requires.there c.loop-place.place (slice_index_or numbers c.loop-place.place 0) (slice_get-get_or numbers c.loop-place.place 0 c.loop-place-test.true) }

pub loop-place-preserved : goal.loop-place-preserved
loop-place-preserved c =
    let numbers = c.args.numbers.now in
    let number = slice_index_or numbers c.loop-place.place 0 in
    rw c.in_ok-push.ensures.items
    (zipped_more (λ place number. IsPlaceOf c.args.all.now c.args.ids.now number place) c.loop-place.place c.loop-place.places.items numbers c.loop-place.invariant
    c.place_of.result number (slice_get-get_or numbers c.loop-place.place 0 c.loop-place-test.true) c.place_of.ensures)

pub returns : goal.returns
returns c =
    let end : c.loop-place.place ≡ length c.args.numbers.now = omega arith in
    zip_each (IsPlaceOf c.args.all.now c.args.ids.now) c.args.numbers.now c.loop-place.places.items (c.loop-place.invariant.count ∙ end)
    (λ i number place at_number at_place. c.loop-place.invariant.each i place number at_place at_number)

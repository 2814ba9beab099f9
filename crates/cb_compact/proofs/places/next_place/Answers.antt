use Rattle.std.proofs.Common.{◌≡◌, List, Bool, subst}
use Rattle.cb_bits.specs.Bits.{IsNextOne, HasNoneFrom}
use Rattle.cb_compact.specs.Compact.{ones_of, AreBefore}
use Rattle.cb_compact.proofs.Ones.{places_rise}
use Rattle.cb_compact.proofs.Words.{wherever, where_none}
use Rattle.cb_compact.proofs.places.next_place.Goals as goal

pub returns-clause-next : goal.returns-clause-next
returns-clause-next c =
    let places = c.args.places.now in
    let from = c.args.from in
    let before = c.first_from.result in
    wherever c.place_after.result
    (λ place. (row : List Bool) → places ≡ ones_of row → AreBefore (ones_of row) from before → IsNextOne row from place)
    (λ place. (row : List Bool) → places ≡ ones_of row → IsNextOne row from place)
    (λ place has row are. has row are (subst (λ ps. AreBefore ps from before) are (c.first_from.ensures (places_rise places row are)))) c.place_after.ensures.next

pub returns-clause-none : goal.returns-clause-none
returns-clause-none c =
    let places = c.args.places.now in
    let from = c.args.from in
    let before = c.first_from.result in
    where_none c.place_after.result
    ((row : List Bool) → places ≡ ones_of row → AreBefore (ones_of row) from before → HasNoneFrom row from)
    ((row : List Bool) → places ≡ ones_of row → HasNoneFrom row from)
    (λ has row are. has row are (subst (λ ps. AreBefore ps from before) are (c.first_from.ensures (places_rise places row are)))) c.place_after.ensures.none

use Rattle.std.proofs.Common.{length, slice_index_or, sym, ◌∙◌, inl, inr, arith}
use Rattle.std.proofs.lemmas.Bool.{cases_eq, eq-eqb, ne_eqb, le-ltb}
use Rattle.cb_compact.proofs.Ones.{places_rise, is_there, is_nowhere}
use Rattle.cb_compact.proofs.places.has_place.Goals as goal

pub returns-then-at-places : goal.returns-then-at-places
returns-then-at-places c = λ row are.
    let places = c.args.places.now in
    let at = c.first_from-at.result in
    let before = c.first_from-at.ensures (places_rise places row are) in
    elim (cases_eq (slice_index_or places at 0) c.args.place) [
      | inl e ↦ eq-eqb (slice_index_or places at 0) c.args.place e ∙ sym (is_there places row are c.args.place at before c.if-at-places.true e)
      | inr other ↦ ne_eqb (slice_index_or places at 0) c.args.place other ∙ sym (is_nowhere places row are c.args.place at before (λ lt. other))
    ]

pub returns-else-at-places : goal.returns-else-at-places
returns-else-at-places c = λ row are.
    let places = c.args.places.now in
    let at = c.first_from-at.result in
    let past = c.if-at-places.false in
    let before = c.first_from-at.ensures (places_rise places row are) in
    le-ltb at (length places) (omega arith) ∙ sym (is_nowhere places row are c.args.place at before (λ lt. absurd (omega arith)))

use Rattle.std.proofs.Common.{◌≡◌, length, [], subst, ◌∙◌, arith}
use Rattle.std.proofs.lemmas.List.{length-set}
use Rattle.cb_distance.specs.Chosen.{ArePlacesBelow}
use Rattle.cb_distance.proofs.Setting.{column_at, place_passed, place_put}
use Rattle.cb_distance.proofs.chosen.places_of.Goals as goal
use Rattle.cb_distance.proofs.chosen.places_of.Goals.{then-column-width+in_ok-push, else-column-width}

pub loop-place-preserved : goal.loop-place-preserved
loop-place-preserved c =
    let columns = c.args.columns.now in
    let lists = c.loop-place.places.items in
    let place = c.loop-place.place in
    let old = c.loop-place.invariant in
    let long = old.0 in
    elim c.if-column-width.branch [
      | then-column-width+in_ok-push w ↦
          let low = w.if-column-width.true in
          rw w.places-is (
            length-set lists (column_at columns [] place) w.push.new.self ∙ long,
            place_put columns [] lists place old.1 w.index_mut.result.now w.push.new.self (omega arith)
                w.index_mut.ensures.value w.in_ok-push.ensures.ok,
          )
      | else-column-width w ↦
          let past = w.if-column-width.false in
          rw w.places-is (long, place_passed columns [] lists place old.1 (omega arith))
    ]

pub returns : goal.returns
returns c =
    let columns = c.args.columns.now in
    let is = c.loop-place.invariant in
    let all : c.loop-place.place ≡ length columns = let end = c.loop-place-test.false in let on = c.loop-place.auto.place-end in omega arith in
    record {
      all = is.0;
      each = subst (λ n. ArePlacesBelow columns n c.loop-place.places.items) all is.1;
    }

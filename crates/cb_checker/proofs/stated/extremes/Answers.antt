use Rattle.std.proofs.Common.{◌≤◌, ◌+◌, min, length, sym, subst, arith}
use Rattle.std.specs.Prelude.{slice_index_or}
use Rattle.std.proofs.lemmas.Option.{slice_get-get_or}
use Rattle.cb_checker.proofs.Tolerated.{AreExtremesTo, more_extremes, all_extremes}
use Rattle.cb_checker.proofs.stated.extremes.Goals as goal

pub loop-place-preserved : goal.loop-place-preserved
loop-place-preserved c =
    let items = c.args.items.now in
    let place = c.loop-place.place in
    let x = slice_index_or items place 0 in
    let more = more_extremes items place c.loop-place.least c.loop-place.greatest x c.loop-place.invariant (slice_get-get_or items place 0 (omega arith)) in
    subst (λ a. AreExtremesTo items (place + 1) a c.max-greatest.result) (sym c.min-least.ensures)
    (subst (λ b. AreExtremesTo items (place + 1) (min c.loop-place.least x) b) (sym c.max-greatest.ensures) more)

pub returns : goal.returns
returns c =
    let done = c.loop-place-test.false in
    let end : length c.args.items.now ≤ c.loop-place.place = omega arith in
    all_extremes c.args.items.now c.loop-place.place c.loop-place.least c.loop-place.greatest end c.loop-place.invariant

use Rattle.std.proofs.Common.{length, get_or, set, take, true, sym, ap, ◌∙◌, arith}
use Rattle.std.proofs.lemmas.List.{take_all}
use Rattle.std.proofs.lemmas.Grind.{take_at_read}
use Rattle.cb_compact.specs.Compact.{with_ones}
use Rattle.cb_compact.proofs.Rising.{no_ones, with_one_more, as_long}
use Rattle.cb_compact.proofs.places.row_at.Goals as goal

pub loop-place-init : goal.loop-place-init
loop-place-init c = c.in_ok-row.ensures ∙ sym (no_ones c.args.len)

pub set-requires : goal.set-requires
set-requires c =
    let long = ap length c.loop-place.invariant ∙ as_long (take c.loop-place.place-index c.args.places.now) c.args.len in
    let within = c.requires c.loop-place.place-index 0 c.loop-place-test.true in
    omega arith

pub loop-place-preserved : goal.loop-place-preserved
loop-place-preserved c =
    let places = c.args.places.now in
    let i = c.loop-place.place-index in
    let place = get_or places i 0 in
    c.set.ensures ∙ ap (λ row. set row place true) c.loop-place.invariant ∙ with_one_more (take i places) place c.args.len (c.requires i 0 c.loop-place-test.true)
    ∙ ap (λ ps. with_ones ps c.args.len) (sym (take_at_read places i 0 c.loop-place-test.true).1)

pub returns : goal.returns
returns c = c.loop-place.invariant ∙ ap (λ ps. with_ones ps c.args.len) (take_all c.loop-place.place-index c.args.places.now (omega arith))

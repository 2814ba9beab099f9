use Rattle.std.proofs.Common.{◌≡◌, length, min, sym, ap, ◌∙◌, arith}
use Rattle.cb_model.proofs.Numbers.{all_at}
use Rattle.cb_coding.specs.Distance.{distance, all_columns}
use Rattle.cb_pairs.proofs.Lists.{code_at_is}
use Rattle.cb_pairs.proofs.Fitting.{nearest_first, nearest_more, nearest_all}
use Rattle.cb_pairs.proofs.nearest.least_from.Goals as goal

pub distance-least-requires : goal.distance-least-requires
distance-least-requires c = sym (all_at (λ row. length row ≡ length c.args.word.now) c.args.codes.now 0 c.at.result.now c.at.ensures c.requires.wide)

pub distance-requires : goal.distance-requires
distance-requires c =
    sym (all_at (λ row. length row ≡ length c.args.word.now) c.args.codes.now c.loop-place.place c.at-in-loop-place.result.now c.at-in-loop-place.ensures c.requires.wide)

pub loop-place-init : goal.loop-place-init
loop-place-init c =
    nearest_first c.args.codes.now c.args.word.now c.distance-least.result c.requires.some
    (c.distance-least.ensures ∙ ap (distance (all_columns (length c.args.word.now)) c.args.word.now) (sym (code_at_is c.args.codes.now 0 c.at.result.now c.at.ensures)))

pub loop-place-preserved : goal.loop-place-preserved
loop-place-preserved c =
    let codes = c.args.codes.now in
    let word = c.args.word.now in
    let at = c.loop-place.place in
    let code = c.at-in-loop-place.result.now in
    let least = c.loop-place.least in
    let test = c.loop-place-test.true in
    let end = c.len-place-end.ensures in
    let here = c.distance.ensures ∙ ap (distance (all_columns (length word)) word) (sym (code_at_is codes at code c.at-in-loop-place.ensures)) in
    nearest_more codes word least at c.min-least.result c.loop-place.invariant (omega arith) (c.min-least.ensures ∙ ap (min least) here)

pub returns : goal.returns
returns c =
    let done = c.loop-place-test.false in
    let end = c.len-place-end.ensures in
    nearest_all c.args.codes.now c.args.word.now c.loop-place.least c.loop-place.place (omega arith) c.loop-place.invariant

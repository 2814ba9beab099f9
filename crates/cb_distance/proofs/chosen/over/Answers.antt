use Rattle.std.proofs.Common.{◌<◌, length, arith}
use Rattle.std.proofs.lemmas.List.Elements.{Contains-get_or}
use Rattle.cb_codes.proofs.ByColumn.{had_within}
use Rattle.cb_distance.proofs.Setting.{column_over, listed}
use Rattle.cb_distance.proofs.chosen.over.Goals as goal

pub set_all-requires : goal.set_all-requires
set_all-requires c = λ k d low.
    let lists = c.args.places.now in
    let list = c.index-places-column.result in
    let here = had_within c.args.code.now c.in-Some.column c.in-Some.ensures.next.is in
    let within : c.in-Some.column < length lists = let wide = c.requires.within in omega arith in
    let is = (listed c.args.columns.now c.args.code.now lists c.in-Some.column list c.requires.places.each within c.index-places-column.is _).0
    (Contains-get_or list k d low)
    in
    let low = is.0 in
    let wide = c.loop-column.invariant.width in
    omega arith

pub loop-column-preserved : goal.loop-column-preserved
loop-column-preserved c =
    let columns = c.args.columns.now in
    let code = c.args.code.now in
    let lists = c.args.places.now in
    let list = c.index-places-column.result in
    let column = c.in-Some.column in
    let next = c.in-Some.ensures.next in
    let here = had_within code column next.is in
    let within : column < length lists = let wide = c.requires.within in omega arith in
    column_over columns code c.loop-column.row c.set_all.new.row c.loop-column.from column list c.loop-column.invariant next
    (listed columns code lists column list c.requires.places.each within c.index-places-column.is) c.set_all.ensures

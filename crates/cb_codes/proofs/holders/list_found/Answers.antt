use Rattle.std.proofs.Common.{◌+◌, ◌-◌, ◌<◌, length, arith}
use Rattle.cb_codes.proofs.ByColumn.{has_entry, next_there, none_there, at_end, starts_rise, list_column, end_list}
use Rattle.cb_codes.proofs.holders.list_found.Goals as goal

pub bounds-places-next : goal.bounds-places-next
bounds-places-next c =
    let codes = c.args.codes.now in
    let column = c.in-Some.column in
    let next = c.in-Some.ensures.next in
    let on = next.on in
    let entry = has_entry codes c.index-codes-place.result c.args.place c.requires.within c.index-codes-place.is c.args.nexts.now c.requires.entries c.loop-column.from column next in
    let there : column + 1 < length c.loop-column.nexts = omega arith in
    let has = (next_there codes c.index-codes-place.result c.args.place c.requires.within c.index-codes-place.is c.loop-column.from column next).is in
    let low = at_end codes c.args.place column c.loop-column.nexts c.loop-column.places c.requires.within has there (c.loop-column.invariant.rest column there on) in
    let last = length c.loop-column.nexts - 1 in
    let rise = starts_rise codes (column + 1) (last - (column + 1)) last (omega arith) in
    let room = c.loop-column.invariant.end last (omega arith) in
    omega arith

pub overflow_add-nexts : goal.overflow_add-nexts
overflow_add-nexts c = let room = bounds-places-next c in let short = c.requires.short in omega arith

pub loop-column-preserved : goal.loop-column-preserved
loop-column-preserved c =
    let codes = c.args.codes.now in
    let column = c.in-Some.column in
    let next = c.in-Some.ensures.next in
    let on = next.on in
    let entry = has_entry codes c.index-codes-place.result c.args.place c.requires.within c.index-codes-place.is c.args.nexts.now c.requires.entries c.loop-column.from column next in
    let there : column + 1 < length c.loop-column.nexts = omega arith in
    let here = next_there codes c.index-codes-place.result c.args.place c.requires.within c.index-codes-place.is c.loop-column.from column next in
    list_column codes c.args.place column c.loop-column.nexts c.loop-column.places c.requires.within here.is there (c.loop-column.invariant.rest column there on)
    c.loop-column.from here (bounds-places-next c) c.loop-column.invariant

pub returns : goal.returns
returns c =
    end_list c.args.codes.now c.args.place c.loop-column.from c.loop-column.nexts c.loop-column.places c.loop-column.invariant
    (none_there c.args.codes.now c.index-codes-place.result c.args.place c.requires.within c.index-codes-place.is c.loop-column.from c.in_default.ensures.none)

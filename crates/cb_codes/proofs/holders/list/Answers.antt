use Rattle.std.proofs.Common.{get_or, arith}
use Rattle.cb_codes.proofs.ByColumn.{list_column, end_list}
use Rattle.cb_codes.proofs.Stored.{after_columns, listed_after, none_left, next_read, entry_read, place_read}
use Rattle.cb_codes.proofs.holders.list.Goals as goal

pub bounds-nexts-entry : goal.bounds-nexts-entry
bounds-nexts-entry c =
    entry_read c.args.codes.now c.index-codes-place.result c.args.place c.requires.within c.index-codes-place.is c.in-Some.columns.now c.in-Some.ensures c.loop-column.column-index c.loop-column-test.true
    c.args.nexts.now c.loop-column.nexts c.requires.entries c.loop-column.auto.nexts

pub bounds-places-next : goal.bounds-places-next
bounds-places-next c =
    let entry = entry_read c.args.codes.now c.index-codes-place.result c.args.place c.requires.within c.index-codes-place.is c.in-Some.columns.now c.in-Some.ensures c.loop-column.column-index c.loop-column-test.true
    c.args.nexts.now c.loop-column.nexts c.requires.entries c.loop-column.auto.nexts in
    place_read c.args.codes.now c.index-codes-place.result c.args.place c.requires.within c.index-codes-place.is c.in-Some.columns.now c.in-Some.ensures c.loop-column.column-index c.loop-column-test.true
    c.loop-column.nexts c.loop-column.places c.loop-column.invariant entry

pub overflow_add-nexts : goal.overflow_add-nexts
overflow_add-nexts c =
    let entry = entry_read c.args.codes.now c.index-codes-place.result c.args.place c.requires.within c.index-codes-place.is c.in-Some.columns.now c.in-Some.ensures c.loop-column.column-index c.loop-column-test.true
    c.args.nexts.now c.loop-column.nexts c.requires.entries c.loop-column.auto.nexts in
    let low = place_read c.args.codes.now c.index-codes-place.result c.args.place c.requires.within c.index-codes-place.is c.in-Some.columns.now c.in-Some.ensures c.loop-column.column-index c.loop-column-test.true
    c.loop-column.nexts c.loop-column.places c.loop-column.invariant entry in
    let short = c.requires.short in
    let same = c.loop-column.auto.places in
    omega arith

pub bounds-nexts-entry-in-loop-column : goal.bounds-nexts-entry-in-loop-column
bounds-nexts-entry-in-loop-column c =
    entry_read c.args.codes.now c.index-codes-place.result c.args.place c.requires.within c.index-codes-place.is c.in-Some.columns.now c.in-Some.ensures c.loop-column.column-index c.loop-column-test.true
    c.args.nexts.now c.loop-column.nexts c.requires.entries c.loop-column.auto.nexts

pub loop-column-preserved : goal.loop-column-preserved
loop-column-preserved c =
    let codes = c.args.codes.now in
    let columns = c.in-Some.columns.now in
    let i = c.loop-column.column-index in
    let column = get_or columns i 0 in
    let entry = entry_read c.args.codes.now c.index-codes-place.result c.args.place c.requires.within c.index-codes-place.is c.in-Some.columns.now c.in-Some.ensures c.loop-column.column-index c.loop-column-test.true
    c.args.nexts.now c.loop-column.nexts c.requires.entries c.loop-column.auto.nexts in
    let next = next_read c.args.codes.now c.index-codes-place.result c.args.place c.requires.within c.index-codes-place.is c.in-Some.columns.now c.in-Some.ensures c.loop-column.column-index c.loop-column-test.true in
    let low = place_read c.args.codes.now c.index-codes-place.result c.args.place c.requires.within c.index-codes-place.is c.in-Some.columns.now c.in-Some.ensures c.loop-column.column-index c.loop-column-test.true
    c.loop-column.nexts c.loop-column.places c.loop-column.invariant entry in
    listed_after codes c.args.place columns i _ _
    (list_column codes c.args.place column c.loop-column.nexts c.loop-column.places c.requires.within next.is entry (c.loop-column.invariant.rest column entry next.on)
    (after_columns columns i) next low c.loop-column.invariant)

pub returns : goal.returns
returns c =
    end_list c.args.codes.now c.args.place (after_columns c.in-Some.columns.now c.loop-column.column-index) c.loop-column.nexts c.loop-column.places c.loop-column.invariant
    (none_left c.args.codes.now c.index-codes-place.result c.args.place c.requires.within c.index-codes-place.is c.in-Some.columns.now c.in-Some.ensures c.loop-column.column-index (omega arith) (omega arith))

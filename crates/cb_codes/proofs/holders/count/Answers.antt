use Rattle.std.proofs.Common.{get_or, arith}
use Rattle.cb_codes.proofs.ByColumn.{count_column, end_count}
use Rattle.cb_codes.proofs.Stored.{after_columns, counted_after, none_left, next_read, entry_read, count_is_low}
use Rattle.cb_codes.proofs.holders.count.Goals as goal

pub bounds-counts-column : goal.bounds-counts-column
bounds-counts-column c =
    entry_read c.args.codes.now c.index-codes-place.result c.args.place c.requires.within c.index-codes-place.is c.in-Some.columns.now c.in-Some.ensures c.loop-column.column-index c.loop-column-test.true
    c.args.counts.now c.loop-column.counts c.requires.entries c.loop-column.auto.counts

pub overflow_add-counts-in-loop-column : goal.overflow_add-counts-in-loop-column
overflow_add-counts-in-loop-column c =
    let entry = entry_read c.args.codes.now c.index-codes-place.result c.args.place c.requires.within c.index-codes-place.is c.in-Some.columns.now c.in-Some.ensures c.loop-column.column-index c.loop-column-test.true
    c.args.counts.now c.loop-column.counts c.requires.entries c.loop-column.auto.counts in
    let low = count_is_low c.args.codes.now c.index-codes-place.result c.args.place c.requires.within c.index-codes-place.is c.in-Some.columns.now c.in-Some.ensures c.loop-column.column-index c.loop-column-test.true
    c.loop-column.counts c.loop-column.invariant entry in
    omega arith

pub bounds-counts-column-in-loop-column : goal.bounds-counts-column-in-loop-column
bounds-counts-column-in-loop-column c =
    entry_read c.args.codes.now c.index-codes-place.result c.args.place c.requires.within c.index-codes-place.is c.in-Some.columns.now c.in-Some.ensures c.loop-column.column-index c.loop-column-test.true
    c.args.counts.now c.loop-column.counts c.requires.entries c.loop-column.auto.counts

pub loop-column-preserved : goal.loop-column-preserved
loop-column-preserved c =
    let codes = c.args.codes.now in
    let columns = c.in-Some.columns.now in
    let i = c.loop-column.column-index in
    let entry = entry_read c.args.codes.now c.index-codes-place.result c.args.place c.requires.within c.index-codes-place.is c.in-Some.columns.now c.in-Some.ensures c.loop-column.column-index c.loop-column-test.true
    c.args.counts.now c.loop-column.counts c.requires.entries c.loop-column.auto.counts in
    let next = next_read c.args.codes.now c.index-codes-place.result c.args.place c.requires.within c.index-codes-place.is c.in-Some.columns.now c.in-Some.ensures c.loop-column.column-index c.loop-column-test.true in
    counted_after codes c.args.place columns i _
    (count_column codes c.args.place (after_columns columns i) (get_or columns i 0) c.loop-column.counts c.loop-column.invariant next entry)

pub returns : goal.returns
returns c =
    end_count c.args.codes.now c.args.place (after_columns c.in-Some.columns.now c.loop-column.column-index) c.loop-column.counts c.loop-column.invariant
    (none_left c.args.codes.now c.index-codes-place.result c.args.place c.requires.within c.index-codes-place.is c.in-Some.columns.now c.in-Some.ensures c.loop-column.column-index (omega arith) (omega arith))

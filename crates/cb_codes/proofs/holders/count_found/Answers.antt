use Rattle.std.proofs.Common.{◌+◌, ◌<◌, length, arith}
use Rattle.cb_codes.proofs.ByColumn.{as_few, has_entry, next_there, none_there, count_column, end_count}
use Rattle.cb_codes.proofs.holders.count_found.Goals as goal

pub overflow_add-counts : goal.overflow_add-counts
overflow_add-counts c =
    let next = c.in-Some.ensures.next in
    let on = next.on in
    let entry = has_entry c.args.codes.now c.index-codes-place.result c.args.place c.requires.within c.index-codes-place.is c.args.counts.now c.requires.entries
    c.loop-column.from c.in-Some.column next in
    let there : c.in-Some.column + 1 < length c.loop-column.counts = omega arith in
    let was = c.loop-column.invariant.rest c.in-Some.column there on in
    let few = as_few c.args.codes.now c.args.place c.in-Some.column in
    omega arith

pub loop-column-preserved : goal.loop-column-preserved
loop-column-preserved c =
    let next = c.in-Some.ensures.next in
    let entry = has_entry c.args.codes.now c.index-codes-place.result c.args.place c.requires.within c.index-codes-place.is c.args.counts.now c.requires.entries
    c.loop-column.from c.in-Some.column next in
    count_column c.args.codes.now c.args.place c.loop-column.from c.in-Some.column c.loop-column.counts c.loop-column.invariant
    (next_there c.args.codes.now c.index-codes-place.result c.args.place c.requires.within c.index-codes-place.is c.loop-column.from c.in-Some.column next)
    (omega arith)

pub returns : goal.returns
returns c =
    end_count c.args.codes.now c.args.place c.loop-column.from c.loop-column.counts c.loop-column.invariant
    (none_there c.args.codes.now c.index-codes-place.result c.args.place c.requires.within c.index-codes-place.is c.loop-column.from c.in_default.ensures.none)

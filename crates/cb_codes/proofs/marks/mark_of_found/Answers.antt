use Rattle.std.proofs.Common.{ap, ◌∙◌, arith}
use Rattle.cb_codes.specs.Marks.{mark_of}
use Rattle.cb_codes.proofs.ByColumn.{had_within}
use Rattle.cb_codes.proofs.OneMark.{next_column, next_mark, no_further_column}
use Rattle.cb_codes.proofs.marks.mark_of_found.Goals as goal

pub overflow_add-from : goal.overflow_add-from
overflow_add-from c =
    let lt = had_within c.args.code.now c.in-Some.column c.in-Some.ensures.next.is in
    let long = c.len-width.ensures in
    let fits = c.len-width.type_inv in
    omega arith

pub loop-column-preserved : goal.loop-column-preserved
loop-column-preserved c =
    let code = c.args.code.now in
    let next = c.in-Some.ensures.next in
    (c.mix-mark.ensures ∙ next_mark code c.loop-column.mark c.loop-column.from c.in-Some.column c.loop-column.invariant.0 next, (next_column code c.loop-column.from c.in-Some.column next).1)

pub returns : goal.returns
returns c = c.loop-column.invariant.0 ∙ ap mark_of (no_further_column c.args.code.now c.loop-column.from c.loop-column.invariant.1 c.in_default.ensures.none)

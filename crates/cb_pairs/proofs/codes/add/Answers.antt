use Rattle.std.proofs.Common.{arith}
use Rattle.cb_pairs.proofs.Rows.{true_within, adds_all}
use Rattle.cb_pairs.proofs.codes.add.Goals as goal

pub overflow_add-from : goal.overflow_add-from
overflow_add-from c =
    let next = c.in-Some.ensures.next in
    let low = true_within c.args.code.now c.in-Some.column next.is in
    let long = c.len-width.ensures in
    let fits = c.len-width.type_inv in
    omega arith

pub returns : goal.returns
returns c =
    adds_all c.args.code.now c.args.row.now c.loop-column.row c.loop-column.from c.requires c.loop-column.invariant c.in_default.ensures.none

use Rattle.std.proofs.Common.{◌+◌, length, sym, ap, subst, ◌∙◌, eqb}
use Rattle.std.proofs.lemmas.List.{length-replicate}
use Rattle.std.proofs.lemmas.List.Filters.{dedup_is}
use Rattle.cb_matrix.specs.Codes.{AreColumnsOf, bits}
use Rattle.cb_matrix.proofs.WordBits.{same_length, none_has}
use Rattle.cb_matrix.proofs.Passed.{AddedTo, one_added, none_added}
use Rattle.cb_matrix.proofs.InOrder.{AreListedBy, none_listed, one_listed, none_more, all_listed}
use Rattle.cb_matrix.proofs.listed.list_columns.Goals as goal
use Rattle.cb_matrix.proofs.listed.list_columns.Goals.{in-Some-position+in_ok-push+else-not-is_sparse, in_default-position}

pub next_left-requires-clause-same : goal.next_left-requires-clause-same
next_left-requires-clause-same c = sym (ap length c.requires.none ∙ length-replicate (length c.args.row.now) 0)

pub loop-node-init : goal.loop-node-init
loop-node-init c =
    let columns = c.args.columns.now in
    let row = bits c.args.row.now in
    let none = c.args.none.now in
    subst (AreListedBy columns (AddedTo row (bits none) 0)) (sym c.clear.ensures.items) (none_listed columns row (bits none) (none_has none (length c.args.row.now) c.requires.none))

pub loop-node-preserved : goal.loop-node-preserved
loop-node-preserved c =
    let columns = c.args.columns.now in
    let row = bits c.args.row.now in
    let none = bits c.args.none.now in
    let wide = sym (ap length c.requires.none ∙ length-replicate (length c.args.row.now) 0) in
    let size = same_length c.args.row.now c.args.none.now wide in
    let from = c.loop-node.from in
    let node = c.in-Some.node in
    let next = c.in-Some.ensures.next in
    let items = c.loop-node.list.items in
    elim c.match-position.branch [
      | in-Some-position+in_ok-push+else-not-is_sparse w ↦
          rw (w.list-is)
          (subst (AreListedBy columns (AddedTo row none (node + 1))) (sym w.in_ok-push.ensures.items)
          (one_listed columns (AddedTo row none from) (AddedTo row none (node + 1)) items node c.loop-node.invariant w.in-Some-position.place w.in-Some-position.ensures
          (one_added columns row none size from node next)))
      | in_default-position w ↦
          rw (w.list-is)
          (none_more columns (AddedTo row none from) (AddedTo row none (node + 1)) items node c.loop-node.invariant w.in_default-position.ensures
          (none_added columns row none size from node next))
    ]

pub returns : goal.returns
returns c = λ yes.
    let row = c.args.row.now in
    let none = c.args.none.now in
    let columns = c.args.columns.now in
    let wide = sym (ap length c.requires.none ∙ length-replicate (length row) 0) in
    subst (AreColumnsOf columns (bits row)) (sym (dedup_is eqb c.sort_unstable.new.self.items c.dedup.new.self.items c.dedup.ensures.filtered))
    (all_listed columns (bits row) (bits none) (same_length row none wide) (none_has none (length row) c.requires.none) c.loop-node.from c.in_default.ensures.none
    c.loop-node.list.items c.sort_unstable.new.self.items c.loop-node.invariant c.sort_unstable.ensures.permutation c.sort_unstable.ensures.sorted)

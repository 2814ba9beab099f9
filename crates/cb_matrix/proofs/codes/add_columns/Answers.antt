use Rattle.std.proofs.Common.{◌+◌}
use Rattle.cb_matrix.specs.Codes.{bits}
use Rattle.cb_matrix.proofs.WordBits.{same_length}
use Rattle.cb_matrix.proofs.Passed.{AddedTo, place_low, joined, no_column, one_added, none_added, none_yet, all_added}
use Rattle.cb_matrix.proofs.codes.add_columns.Goals as goal
use Rattle.cb_matrix.proofs.codes.add_columns.Goals.{in-Some-position, in_default-position}

pub loop-node-init : goal.loop-node-init
loop-node-init c =
    let row = c.args.row.now in
    let last = c.args.last.now in
    none_yet c.args.columns.now (bits row) (bits last) (same_length row last c.requires.same) c.args.code.now c.requires.code

pub set-requires : goal.set-requires
set-requires c =
    let row = bits c.args.row.now in
    let last = bits c.args.last.now in
    place_low c.args.columns.now (AddedTo row last c.loop-node.from) (AddedTo row last c.loop-node.from) c.loop-node.code c.in-Some.node c.loop-node.invariant
    c.in-Some-position.place c.in-Some-position.ensures

pub loop-node-preserved : goal.loop-node-preserved
loop-node-preserved c =
    let columns = c.args.columns.now in
    let row = bits c.args.row.now in
    let last = bits c.args.last.now in
    let size = same_length c.args.row.now c.args.last.now c.requires.same in
    let from = c.loop-node.from in
    let node = c.in-Some.node in
    let next = c.in-Some.ensures.next in
    elim c.match-position.branch [
      | in-Some-position w ↦
          rw (w.code-is, w.set.ensures)
          (joined columns (AddedTo row last from) (AddedTo row last (node + 1)) c.loop-node.code node c.loop-node.invariant w.in-Some-position.place w.in-Some-position.ensures
          (one_added columns row last size from node next))
      | in_default-position w ↦
          rw (w.code-is)
          (no_column columns (AddedTo row last from) (AddedTo row last (node + 1)) c.loop-node.code node c.loop-node.invariant w.in_default-position.ensures
          (none_added columns row last size from node next))
    ]

pub returns : goal.returns
returns c =
    let row = c.args.row.now in
    let last = c.args.last.now in
    all_added c.args.columns.now (bits row) (bits last) (same_length row last c.requires.same) c.loop-node.from c.loop-node.code c.in_default.ensures.none c.loop-node.invariant

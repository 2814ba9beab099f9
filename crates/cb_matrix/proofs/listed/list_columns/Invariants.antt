use Rattle.std.proofs.Common.{◌-◌, ◌*◌, length}
use Rattle.cb_matrix.specs.Codes.{bits}
use Rattle.cb_matrix.proofs.Passed.{AddedTo}
use Rattle.cb_matrix.proofs.InOrder.{AreListedBy}
use Rattle.cb_matrix.proofs.listed.list_columns.Given as goal

abbrev pub invariant-loop-node : goal.invariant-loop-node
invariant-loop-node l = AreListedBy l.columns (AddedTo (bits l.row) (bits l.none) l.from) l.list.items

abbrev pub decreases-loop-node : goal.decreases-loop-node
decreases-loop-node l = 64 * length l.row - l.from

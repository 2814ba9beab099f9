use Rattle.std.proofs.Common.{◌-◌, ◌*◌, length}
use Rattle.cb_matrix.specs.Codes.{IsCodeWhere, bits}
use Rattle.cb_matrix.proofs.Passed.{AddedTo}
use Rattle.cb_matrix.proofs.codes.add_columns.Given as goal

abbrev pub invariant-loop-node : goal.invariant-loop-node
invariant-loop-node l = IsCodeWhere l.columns (AddedTo (bits l.row) (bits l.last) l.from) l.code

abbrev pub decreases-loop-node : goal.decreases-loop-node
decreases-loop-node l = 64 * length l.row - l.from

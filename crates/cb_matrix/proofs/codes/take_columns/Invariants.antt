use Rattle.std.proofs.Common.{◌-◌, ◌*◌, length}
use Rattle.cb_matrix.specs.Codes.{IsCodeWhere, bits}
use Rattle.cb_matrix.proofs.Passed.{TakenTo}
use Rattle.cb_matrix.proofs.codes.take_columns.Given as goal

abbrev pub invariant-loop-node : goal.invariant-loop-node
invariant-loop-node l = IsCodeWhere l.columns (TakenTo (bits l.row) (bits l.last) l.from) l.code

abbrev pub decreases-loop-node : goal.decreases-loop-node
decreases-loop-node l = 64 * length l.last - l.from

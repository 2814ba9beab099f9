use Rattle.std.proofs.Common.{◌-◌, length}
use Rattle.cb_pairs.proofs.Rows.{AddsUpto}
use Rattle.cb_pairs.proofs.codes.add.Given as goal

abbrev pub invariant-loop-column : goal.invariant-loop-column
invariant-loop-column l = AddsUpto l.code l.fn.row l.row l.from

abbrev pub decreases-loop-column : goal.decreases-loop-column
decreases-loop-column l = length l.code - l.from

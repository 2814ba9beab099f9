use Rattle.std.proofs.Common.{◌-◌, length}
use Rattle.cb_codes.proofs.ByColumn.{AreCountedBelow}
use Rattle.cb_codes.proofs.holders.count_found.Given as goal

abbrev pub invariant-loop-column : goal.invariant-loop-column
invariant-loop-column l = AreCountedBelow l.codes l.place l.from l.counts

abbrev pub decreases-loop-column : goal.decreases-loop-column
decreases-loop-column l = length l.code - l.from

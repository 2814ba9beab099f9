use Rattle.std.proofs.Common.{◌-◌, length}
use Rattle.cb_codes.proofs.ByColumn.{AreListedBelow}
use Rattle.cb_codes.proofs.holders.list_found.Given as goal

abbrev pub invariant-loop-column : goal.invariant-loop-column
invariant-loop-column l = AreListedBelow l.codes l.place l.from l.nexts l.places

abbrev pub decreases-loop-column : goal.decreases-loop-column
decreases-loop-column l = length l.code - l.from

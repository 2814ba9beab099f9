use Rattle.std.proofs.Common.{◌-◌, length}
use Rattle.cb_report.proofs.Digits.{AreClearedTo}
use Rattle.cb_report.proofs.code_digits.clear_ones.Given as goal

abbrev pub invariant-loop-column : goal.invariant-loop-column
invariant-loop-column l = AreClearedTo l.code l.start l.digits

abbrev pub decreases-loop-column : goal.decreases-loop-column
decreases-loop-column l = length l.code - l.start

use Rattle.std.proofs.Common.{◌≡◌, ◌≤◌, ◌-◌, length}
use Rattle.cb_coding.specs.Distance.{bit}
use Rattle.cb_codes.specs.Marks.{mark_of}
use Rattle.cb_codes.proofs.Passing.{passing}
use Rattle.cb_codes.proofs.marks.mark_of_found.Given as goal

abbrev pub invariant-loop-column : goal.invariant-loop-column
invariant-loop-column l = (l.mark ≡ mark_of (passing (bit l.code) l.from)) × (l.from ≤ length l.code)

abbrev pub decreases-loop-column : goal.decreases-loop-column
decreases-loop-column l = length l.code - l.from

use Rattle.std.proofs.Common.{take}
use Rattle.cb_checker.specs.Reasons.{HasEnd, IsFirstWithout}
use Rattle.cb_checker.proofs.reasons.first_outside.Given as goal

abbrev pub invariant-loop-i : goal.invariant-loop-i
invariant-loop-i l = IsFirstWithout (HasEnd l.found) (take l.i l.siblings) l.first

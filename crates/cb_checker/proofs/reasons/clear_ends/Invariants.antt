use Rattle.std.proofs.Common.{◌≡◌, length, take}
use Rattle.cb_checker.specs.Reasons.{HasNoEnds}
use Rattle.cb_checker.proofs.reasons.clear_ends.Given as goal

abbrev pub invariant-loop-i : goal.invariant-loop-i
invariant-loop-i l = record {
  capacity : length l.found ≡ length l.initial.found;
  none : HasNoEnds (take l.i l.siblings) l.found;
}

use Rattle.std.proofs.Common.{◌≡◌, ◌-◌, ◌≤◌, length, take}
use Rattle.cb_checker.specs.Reasons.{IsFirstUnled}
use Rattle.cb_checker.proofs.reasons.first_by_parents.Given as goal

abbrev pub invariant-loop-start : goal.invariant-loop-start
invariant-loop-start g l = record {
  same : l.graph ≡ l.initial.graph;
  capacity : length l.found ≡ length l.initial.found;
  within : l.start ≤ length l.reasons;
  first : IsFirstUnled l.initial.graph (take l.start l.reasons) l.first;
}

abbrev pub decreases-loop-start : goal.decreases-loop-start
decreases-loop-start g l = length l.reasons - l.start

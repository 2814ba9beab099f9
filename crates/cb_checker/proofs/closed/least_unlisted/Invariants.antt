use Rattle.cb_checker.specs.Missing.{IsLeastIfAny}
use Rattle.cb_checker.proofs.Closing.{IsUnlistedTo}
use Rattle.cb_checker.proofs.closed.least_unlisted.Given as goal

abbrev pub invariant-loop-place : goal.invariant-loop-place
invariant-loop-place l = IsLeastIfAny l.topology (IsUnlistedTo l.nodes l.listed l.place) l.least

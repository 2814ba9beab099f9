use Rattle.std.proofs.Common.{◌≤◌, length}
use Rattle.cb_test_causes.proofs.plain.agree.Given as goal

abbrev pub invariant-loop-from : goal.invariant-loop-from
invariant-loop-from g l = length l.graph.nodes ≤ length l.row

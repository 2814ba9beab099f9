use Rattle.cb_explain.proofs.Judging.{IsDeepestTo}
use Rattle.cb_explain.proofs.checking.deepest.Given as goal

abbrev pub invariant-loop-position : goal.invariant-loop-position
invariant-loop-position l = IsDeepestTo l.levels l.position l.deepest

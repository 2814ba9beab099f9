use Rattle.cb_explain.proofs.Using.{AreUsedTo}
use Rattle.cb_explain.proofs.written.use_visits.Given as goal

abbrev pub invariant-loop-position : goal.invariant-loop-position
invariant-loop-position l = AreUsedTo l.visits l.position l.initial.used l.used

use Rattle.cb_reduce.proofs.Standing.{IsStanding}
use Rattle.cb_reduce.proofs.single.kept_alone.Given as goal

abbrev pub invariant-loop-column : goal.invariant-loop-column
invariant-loop-column l = IsStanding l.width l.codes.rows l.column l.standing

use Rattle.cb_levels.proofs.Following.{ListNot}
use Rattle.cb_levels.proofs.followed.first_of.Given as goal

abbrev pub invariant-loop-position : goal.invariant-loop-position
invariant-loop-position l = ListNot l.levels l.node l.position

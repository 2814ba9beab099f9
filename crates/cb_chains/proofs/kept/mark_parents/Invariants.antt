use Rattle.cb_chains.specs.Trees.{without_levels}
use Rattle.cb_chains.proofs.Marking.{HasMarkedParentsFrom}
use Rattle.cb_chains.proofs.kept.mark_parents.Given as goal

abbrev pub invariant-loop-position : goal.invariant-loop-position
invariant-loop-position l = HasMarkedParentsFrom (without_levels l.visits) l.position l.initial.marked l.marked

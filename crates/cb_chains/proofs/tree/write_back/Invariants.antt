use Rattle.std.proofs.Common.{length}
use Rattle.cb_chains.proofs.Writing.{IsWrittenTo}
use Rattle.cb_chains.proofs.tree.write_back.Given as goal

abbrev pub invariant-loop-position : goal.invariant-loop-position
invariant-loop-position l = IsWrittenTo l.visits l.end (length l.fn.path.items) l.position l.start l.path.items

abbrev pub decreases-loop-position : goal.decreases-loop-position
decreases-loop-position l = l.position

use Rattle.cb_topo.proofs.Positions.{IsTableTo}
use Rattle.cb_topo.proofs.columns.positions_of.Given as goal

abbrev pub invariant-loop-position : goal.invariant-loop-position
invariant-loop-position l = IsTableTo l.capacity l.nodes l.position l.positions.items

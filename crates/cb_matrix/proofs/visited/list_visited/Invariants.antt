use Rattle.cb_matrix.proofs.InOrder.{AreListedBy}
use Rattle.cb_matrix.proofs.Seen.{IsSeen}
use Rattle.cb_matrix.proofs.visited.list_visited.Given as goal

abbrev pub invariant-loop-visit : goal.invariant-loop-visit
invariant-loop-visit l = AreListedBy l.columns (IsSeen l.order.nodes.items l.visits l.visit-index) l.list.items

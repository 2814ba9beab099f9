use Rattle.cb_matrix.specs.Codes.{IsCodeWhere}
use Rattle.cb_matrix.proofs.Seen.{IsSeen}
use Rattle.cb_matrix.proofs.visited.mark_visited.Given as goal

abbrev pub invariant-loop-visit : goal.invariant-loop-visit
invariant-loop-visit l = IsCodeWhere l.columns (IsSeen l.order.nodes.items l.visits l.visit-index) l.code

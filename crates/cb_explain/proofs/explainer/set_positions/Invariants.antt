use Rattle.std.proofs.Common.{length}
use Rattle.cb_explain.proofs.Positions.{HavePositionsTo}
use Rattle.cb_explain.proofs.explainer.set_positions.Given as goal

abbrev pub invariant-loop-position : goal.invariant-loop-position
invariant-loop-position l = HavePositionsTo l.visits l.position (length l.initial.positions.items) l.positions.items

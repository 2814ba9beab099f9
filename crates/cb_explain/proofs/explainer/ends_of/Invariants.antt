use Rattle.std.proofs.Common.{take}
use Rattle.cb_explain.specs.Chained.{AreEndsOf}
use Rattle.cb_explain.proofs.explainer.ends_of.Given as goal

abbrev pub invariant-loop-at : goal.invariant-loop-at
invariant-loop-at l = AreEndsOf l.order l.visits (take l.at l.nodes) l.ends.items

use Rattle.cb_breadth.specs.declared.visit.Visit.{Visit}
use Rattle.cb_chains.proofs.Marking.{AreMarkedTo}
use Rattle.cb_chains.proofs.kept.use_nodes.Given as goal

abbrev pub invariant-loop-at : goal.invariant-loop-at
invariant-loop-at l = AreMarkedTo (λ (v : Visit). v.node) l.visits l.at l.initial.used l.used

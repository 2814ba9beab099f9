use Rattle.std.proofs.Common.{ℕ}
use Rattle.cb_chains.proofs.Marking.{AreMarkedTo}
use Rattle.cb_chains.proofs.kept.mark_all.Given as goal

abbrev pub invariant-loop-at : goal.invariant-loop-at
invariant-loop-at l = AreMarkedTo (λ (p : ℕ). p) l.positions l.at l.initial.marked l.marked

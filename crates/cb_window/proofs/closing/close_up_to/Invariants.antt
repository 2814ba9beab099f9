use Rattle.cb_window.proofs.Telling.{ReportedSoFar}
use Rattle.cb_window.proofs.closing.close_up_to.Given as goal

abbrev pub invariant-loop-turn : goal.invariant-loop-turn
invariant-loop-turn l = ReportedSoFar l.live l.queue l.last l.time l.closing l.turn-iterator

use Rattle.cb_window.proofs.Telling.{ReportedSome}
use Rattle.cb_window.proofs.closing.close_all.Given as goal

abbrev pub invariant-loop-turn : goal.invariant-loop-turn
invariant-loop-turn l = ReportedSome l.live l.queue l.time l.closing l.turn-iterator

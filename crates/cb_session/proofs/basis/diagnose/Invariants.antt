use Rattle.std.proofs.Common.{take}
use Rattle.cb_session.proofs.Bases.{Diagnosed}
use Rattle.cb_session.proofs.basis.diagnose.Given as goal

abbrev pub invariant-loop-k : goal.invariant-loop-k
invariant-loop-k l = Diagnosed l.topology l.ready (take l.k l.closing) l.fn.events l.events

use Rattle.cb_accept.proofs.Own.{HasTallied}
use Rattle.cb_accept.proofs.counts.NodeCounts.of_class.Given as goal

abbrev pub invariant-loop-event : goal.invariant-loop-event
invariant-loop-event l = HasTallied l.model l.class l.events l.event-index l.problems l.symptoms

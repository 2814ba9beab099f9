use Rattle.cb_topo.proofs.ByNames.{AreEventsOfFirst}
use Rattle.cb_topo.proofs.sorted.events_of_classes.Given as goal

abbrev pub invariant-loop-class : goal.invariant-loop-class
invariant-loop-class l = AreEventsOfFirst l.model l.class l.lists.items

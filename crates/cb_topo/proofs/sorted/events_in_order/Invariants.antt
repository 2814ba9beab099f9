use Rattle.std.proofs.Common.{take}
use Rattle.cb_topo.proofs.ByNames.{AreNamedEvents}
use Rattle.cb_topo.proofs.sorted.events_in_order.Given as goal

abbrev pub invariant-loop-id : goal.invariant-loop-id
invariant-loop-id l = AreNamedEvents l.model (take l.id-index l.events) l.named.items

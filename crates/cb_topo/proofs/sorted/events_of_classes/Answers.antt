use Rattle.std.proofs.Common.{◌+◌, List, sym, subst}
use Rattle.std.specs.Global.{Global}
use Rattle.std.specs.declared.vec.Vec.{Vec}
use Rattle.cb_model.specs.declared.id.EventId.{EventId}
use Rattle.cb_topo.proofs.ByNames.{AreEventsOfFirst, more_lists}
use Rattle.cb_topo.proofs.sorted.events_of_classes.Goals as goal

pub loop-class-preserved : goal.loop-class-preserved
loop-class-preserved c =
    let tables = c.args.model.now in
    subst (λ (lists : List (Vec EventId Global)). AreEventsOfFirst tables (c.loop-class.class + 1) lists) (sym c.in_ok-push.ensures.items)
    (more_lists tables c.loop-class.class c.loop-class.lists.items c.in_ok-events_in_order.field-0 c.loop-class.invariant c.in_ok-events_in_order.ensures)

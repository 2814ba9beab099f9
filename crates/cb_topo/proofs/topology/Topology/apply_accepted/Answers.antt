use Rattle.std.proofs.Common.{subst}
use Rattle.cb_topo.specs.Applied.{Applies}
use Rattle.cb_topo.specs.Numbered.{Numbered}
use Rattle.cb_topo.proofs.Following.{were_order}
use Rattle.cb_topo.proofs.topology.Topology.apply_accepted.Goals as goal

pub order_after-order-requires : goal.order_after-order-requires
order_after-order-requires c =
    let edit = c.args.accepted.now.edit.now in
    let new = c.change.new.self in
    let before = c.take_order-order.ensures in
    let applies = subst (λ (n : Numbered). Applies n edit new) before.same c.in-Ok.ensures.made in
    were_order c.args.self.now new edit c.take_order-order.result before.whole c.in-Ok.ensures.whole applies before.order

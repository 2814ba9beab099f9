use Rattle.std.proofs.Common.{List, length, ◌≤◌, sym, subst}
use Rattle.std.specs.List.Sorted.{IsPartitionPoint}
use Rattle.cb_nodes.specs.declared.id.NodeId.{NodeId}
use Rattle.cb_topo.specs.Settled.{IsBefore, PutsIn}
use Rattle.cb_topo.proofs.Rising.{puts_in}
use Rattle.cb_topo.proofs.topology.Topology.put_in.Goals as goal

pub returns : goal.returns
returns c =
    let n = c.args.self.now in
    let old = c.args.order.now.items in
    let id = c.args.node in
    let p = c.position_of-position.result in
    let value = c.deref.ensures.value in
    let within = subst (λ (ids : List NodeId). p ≤ length ids) value c.position_of-position.ensures.within in
    let point = subst (λ (ids : List NodeId). IsPartitionPoint (λ other. IsBefore n other id) (λ other. ¬ IsBefore n other id) ids p) value c.position_of-position.ensures.point in
    subst (λ ids. PutsIn n old ids id) (sym c.in_ok-insert.ensures.items)
    (puts_in n c.requires.whole old p id c.requires.rising c.requires.live c.requires.new within point)

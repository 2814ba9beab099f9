use Rattle.std.proofs.Common.{◌<◌, ◌+◌, refl, ap, sym, subst, ◌∙◌, arith}
use Rattle.std.proofs.lemmas.Bool.{false≢true}
use Rattle.cb_nodes.specs.declared.id.NodeId.{NodeId}
use Rattle.cb_nodes.specs.declared.node.Node.{Node}
use Rattle.cb_nodes.specs.Table.{IsNode}
use Rattle.cb_topo.specs.Numbered.{Numbered}
use Rattle.cb_topo.proofs.Following.{IsPartly, partly_none, partly_past, partly_more, partly_all}
use Rattle.cb_topo.proofs.topology.Topology.with_new.Goals as goal
use Rattle.cb_topo.proofs.topology.Topology.with_new.Goals.{then-is_at+in_ok-put_in, else-is_at}

pub loop-place-init : goal.loop-place-init
loop-place-init c = partly_none c.args.self.now c.args.instance c.args.order.items c.requires.lacks

pub put_in-requires-clause-live : goal.put_in-requires-clause-live
put_in-requires-clause-live c =
    let (node, is, at) = c.is_at.ensures.0 c.if-is_at.true in
    c.requires.whole.node_named (record { 0 = c.loop-place.place }) node is

pub put_in-requires-clause-new : goal.put_in-requires-clause-new
put_in-requires-clause-new c = λ there.
    c.loop-place.invariant.later (record { 0 = c.loop-place.place }) (c.is_at.ensures.0 c.if-is_at.true) (omega arith) there

pub loop-place-preserved : goal.loop-place-preserved
loop-place-preserved c =
    let n = c.args.self.now in
    let i = c.args.instance in
    let k = c.loop-place.place in
    let ids = c.loop-place.order.items in
    let id : NodeId = record { 0 = k } in
    elim c.if-is_at.branch [
      | then-is_at+in_ok-put_in w ↦
          subst (IsPartly n i (k + 1)) (sym (ap (λ v. v.items) w.order-is))
          (partly_more n i k ids c.loop-place.invariant id refl _ w.in_ok-put_in.ensures)
      | else-is_at w ↦
          subst (IsPartly n i (k + 1)) (sym (ap (λ v. v.items) w.order-is))
          (partly_past n i k ids c.loop-place.invariant id refl (λ at. false≢true (sym w.if-is_at.false ∙ c.is_at.ensures.1 at)))
    ]

pub returns : goal.returns
returns c =
    let k = c.loop-place.place in
    let below : (id : NodeId) (node : Node) → IsNode c.self.inside.nodes id node → id.0 < k = λ id node is.
    let low = c.capacity-place-end.ensures.above id (node, is) in
    omega (arith, low, c.loop-place-test.false) in
    let there = subst (λ (m : Numbered). (id : NodeId) (node : Node) → IsNode m.nodes id node → id.0 < k) c.self.view_is below in
    partly_all c.args.self.now c.args.instance k c.loop-place.order.items c.loop-place.invariant (λ id (x, named). there id named.node named.is)

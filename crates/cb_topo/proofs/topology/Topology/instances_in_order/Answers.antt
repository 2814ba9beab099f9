use Rattle.std.proofs.Common.{◌<◌, ◌+◌, refl, ap, sym, subst, ◌∙◌, arith}
use Rattle.std.proofs.lemmas.Bool.{false≢true}
use Rattle.std.proofs.lemmas.Result.{IfOk-weaker}
use Rattle.cb_instances.specs.declared.id.InstanceId.{InstanceId}
use Rattle.cb_instances.specs.Net.{IsNamed, IsLiveInstance}
use Rattle.cb_topo.specs.declared.sorted.Named.{Named}
use Rattle.cb_topo.specs.Numbered.{Numbered, IsWhole}
use Rattle.cb_topo.proofs.ByNames.{AreNamedBelow, none_below, past_below, more_below, instances_ordered}
use Rattle.cb_topo.proofs.Naming.{whole}
use Rattle.cb_topo.proofs.topology.Topology.instances_in_order.Goals as goal
use Rattle.cb_topo.proofs.topology.Topology.instances_in_order.Goals.{then-has_instance+in_ok-push, else-has_instance}

pub loop-place-init : goal.loop-place-init
loop-place-init c = subst (AreNamedBelow c.args.self.now.net 0) (sym c.new-named.ensures.items) (none_below c.args.self.now.net)

pub name_of-name-requires : goal.name_of-name-requires
name_of-name-requires c = c.has_instance.ensures.0 c.if-has_instance.true

pub loop-place-preserved : goal.loop-place-preserved
loop-place-preserved c =
    let n = c.args.self.now in
    let seen : Numbered = record { net = c.self.inside.net; nodes = c.self.inside.nodes } in
    let is_whole = subst IsWhole c.self.view_is (whole seen c.self.inside.counts c.self.invariant.topology) in
    let k = c.loop-place.place in
    let old = c.loop-place.named.items in
    let id : InstanceId = record { 0 = k } in
    elim c.if-has_instance.branch [
      | then-has_instance+in_ok-push w ↦
          let one : Named InstanceId = record { name = w.name_of-name.result; id = id } in
          let is = subst (λ (m : Numbered). IsNamed m.net id one.name.now) c.self.view_is w.name_of-name.ensures in
          subst (AreNamedBelow n.net (k + 1)) (sym (ap (λ v. v.items) w.named-is ∙ w.in_ok-push.ensures.items))
          (more_below n.net k old c.loop-place.invariant is_whole.net one refl is)
      | else-has_instance w ↦
          subst (AreNamedBelow n.net (k + 1)) (sym (ap (λ v. v.items) w.named-is))
          (past_below n.net k old c.loop-place.invariant id refl (λ live. false≢true (sym w.if-has_instance.false ∙ c.has_instance.ensures.1 (subst (λ (m : Numbered). IsLiveInstance m.net id) (sym c.self.view_is) live))))
    ]

pub in_name_order-requires : goal.in_name_order-requires
in_name_order-requires c = c.loop-place.invariant.unlike

pub returns : goal.returns
returns c =
    let k = c.loop-place.place in
    let below : (i : InstanceId) → IsLiveInstance c.self.inside.net i → i.0 < k = λ i live.
    let low = c.capacity-place-end.ensures.above i live in
    omega (arith, low, c.loop-place-test.false) in
    let there = subst (λ (m : Numbered). (i : InstanceId) → IsLiveInstance m.net i → i.0 < k) c.self.view_is below in
    IfOk-weaker c.in_name_order.result _ _ (λ ids order. instances_ordered c.args.self.now.net k c.loop-place.named.items ids.items there c.loop-place.invariant order) c.in_name_order.ensures

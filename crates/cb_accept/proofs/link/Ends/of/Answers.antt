use Rattle.cb_network.specs.declared.edit.Edit.TheVariants.{Link, Unlink}
use Rattle.cb_network.specs.declared.edit.EditRefusal.TheVariants.{NoRelation}
use Rattle.cb_network.specs.Edits.{IsRefused}
use Rattle.cb_instances.specs.declared.id.InstanceId.{InstanceId}
use Rattle.cb_instances.specs.Net.{IsNamed}
use Rattle.cb_accept.proofs.Answered.{absent_err, present}
use Rattle.cb_accept.proofs.Firsts.{no_relation_to_link, no_relation_to_unlink}
use Rattle.cb_accept.proofs.link.Ends.of.Goals as goal

pub returns-in_err-rel-clause-link : goal.returns-in_err-rel-clause-link
returns-in_err-rel-clause-link c =
    let net = c.args.net.now in
    let a = present (λ (id : InstanceId). IsNamed net id c.args.a.now) c.instance_named.result c.in_ok-from.from c.in_ok-from.ensures.ok_part c.instance_named.ensures.found in
    let b = present (λ (id : InstanceId). IsNamed net id c.args.b.now) c.instance_named-2.result c.in_ok-to.to c.in_ok-to.ensures.ok_part c.instance_named-2.ensures.found in
    absent_err c.relation_at.result NoRelation _ c.from_residual-in_err-rel.result _ (IsRefused net.topology (Link c.args.a.now c.args.rel.now c.args.b.now))
    c.in_err-rel.ensures.value c.from_residual-in_err-rel.ensures.1 c.relation_at.ensures.absent
    (λ none. no_relation_to_link net.topology c.args.a.now c.args.rel.now c.args.b.now (c.instance_named.ensures.whole.live _ _ a) (c.instance_named.ensures.whole.live _ _ b) (none c.args.a.now a))

pub returns-in_err-rel-clause-unlink : goal.returns-in_err-rel-clause-unlink
returns-in_err-rel-clause-unlink c =
    let net = c.args.net.now in
    let a = present (λ (id : InstanceId). IsNamed net id c.args.a.now) c.instance_named.result c.in_ok-from.from c.in_ok-from.ensures.ok_part c.instance_named.ensures.found in
    let b = present (λ (id : InstanceId). IsNamed net id c.args.b.now) c.instance_named-2.result c.in_ok-to.to c.in_ok-to.ensures.ok_part c.instance_named-2.ensures.found in
    absent_err c.relation_at.result NoRelation _ c.from_residual-in_err-rel.result _ (IsRefused net.topology (Unlink c.args.a.now c.args.rel.now c.args.b.now))
    c.in_err-rel.ensures.value c.from_residual-in_err-rel.ensures.1 c.relation_at.ensures.absent
    (λ none. no_relation_to_unlink net.topology c.args.a.now c.args.rel.now c.args.b.now (c.instance_named.ensures.whole.live _ _ a) (c.instance_named.ensures.whole.live _ _ b) (none c.args.a.now a))

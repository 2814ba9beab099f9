use Rattle.std.proofs.Common.{arith, subst, sym, IfNone}
use Rattle.std.proofs.lemmas.Option.{slice_get_within}
use Rattle.cb_model.specs.declared.id.ClassId.{ClassId}
use Rattle.cb_model.specs.declared.tables.Tables.{Tables}
use Rattle.cb_model.specs.Classes.{NamesClass}
use Rattle.cb_model.specs.WellTyped.{WellTyped}
use Rattle.cb_network.specs.declared.edit.Edit.TheVariants.{Create}
use Rattle.cb_network.specs.declared.edit.EditRefusal.TheVariants.{NoClass}
use Rattle.cb_network.specs.Topology.{IsLive}
use Rattle.cb_instances.specs.declared.id.InstanceId.{InstanceId}
use Rattle.cb_instances.specs.Net.{IsNamed}
use Rattle.cb_network.specs.Edits.{IsRefused}
use Rattle.cb_accept.proofs.Answered.{absent_err, passed_err, present, was_found, was_absent}
use Rattle.cb_accept.proofs.Firsts.{no_class, exists, too_many_instances, create_allowed, beyond_limit}
use Rattle.cb_accept.proofs.create.may_create.Goals as goal

pub returns-in_err-class-clause-refused : goal.returns-in_err-class-clause-refused
returns-in_err-class-clause-refused c =
    let t = c.args.net.now.topology in
    let none = subst (λ (m : Tables). IfNone c.class_named.result ((class : ClassId) → ¬ NamesClass m c.args.class.now class)) c.model-model.ensures.value c.class_named.ensures.absent in
    absent_err c.class_named.result NoClass _ c.from_residual.result _ (IsRefused t (Create c.args.name.now c.args.class.now))
    c.in_err-class.ensures.value c.from_residual.ensures.1 none (no_class t c.args.name.now c.args.class.now)

pub returns-then-is_some-clause-refused : goal.returns-then-is_some-clause-refused
returns-then-is_some-clause-refused c =
    let net = c.args.net.now in
    let names = present (NamesClass c.model-model.result.now c.args.class.now) c.class_named.result c.in_ok-class.class c.in_ok-class.ensures.ok_part c.class_named.ensures.found in
    let named = subst (λ (m : Tables). NamesClass m c.args.class.now c.in_ok-class.class) c.model-model.ensures.value names in
    let (id, at) = was_found (λ (id : InstanceId). IsNamed net id c.args.name.now) c.instance_named.result c.is_some.result c.is_some.ensures c.if-is_some.true c.instance_named.ensures.found in
    exists net.topology c.args.name.now c.args.class.now c.in_ok-class.class named (c.instance_named.ensures.whole.live id c.args.name.now at)

pub returns-then-count-ge-MOST_INSTANCES-clause-refused : goal.returns-then-count-ge-MOST_INSTANCES-clause-refused
returns-then-count-ge-MOST_INSTANCES-clause-refused c =
    let net = c.args.net.now in
    let names = present (NamesClass c.model-model.result.now c.args.class.now) c.class_named.result c.in_ok-class.class c.in_ok-class.ensures.ok_part c.class_named.ensures.found in
    let named = subst (λ (m : Tables). NamesClass m c.args.class.now c.in_ok-class.class) c.model-model.ensures.value names in
    let typed = subst WellTyped c.model-model.ensures.value c.tables-typed.ensures.typed in
    let fresh = was_absent (¬ IsLive net.topology c.args.name.now) c.instance_named.result c.is_some.result c.is_some.ensures c.if-is_some.false c.instance_named.ensures.absent in
    too_many_instances net.topology c.args.name.now c.args.class.now c.in_ok-class.class named typed fresh (omega arith)

pub with-requires-clause-class : goal.with-requires-clause-class
with-requires-clause-class c =
    let (row, is, _) = present (NamesClass c.model-model.result.now c.args.class.now) c.class_named.result c.in_ok-class.class c.in_ok-class.ensures.ok_part c.class_named.ensures.found in
    slice_get_within c.model-model.result.now.classes c.in_ok-class.class.0 row is

pub returns-clause-allowed : goal.returns-clause-allowed
returns-clause-allowed c =
    let net = c.args.net.now in
    let names = present (NamesClass c.model-model.result.now c.args.class.now) c.class_named.result c.in_ok-class.class c.in_ok-class.ensures.ok_part c.class_named.ensures.found in
    let named = subst (λ (m : Tables). NamesClass m c.args.class.now c.in_ok-class.class) c.model-model.ensures.value names in
    let typed = subst WellTyped c.model-model.ensures.value c.tables-typed.ensures.typed in
    let fresh = was_absent (¬ IsLive net.topology c.args.name.now) c.instance_named.result c.is_some.result c.is_some.ensures c.if-is_some.false c.instance_named.ensures.absent in
    let are = c.with.ensures net.topology c.args.name.now (sym c.model-model.ensures.value) fresh c.requires.counts in
    create_allowed net.topology c.args.name.now c.args.class.now c.in_ok-class.class named typed fresh (omega arith) c.with.result are c.in_ok-are_within.ensures.within

pub returns-in_err-are_within-clause-refused : goal.returns-in_err-are_within-clause-refused
returns-in_err-are_within-clause-refused c =
    let net = c.args.net.now in
    let names = present (NamesClass c.model-model.result.now c.args.class.now) c.class_named.result c.in_ok-class.class c.in_ok-class.ensures.ok_part c.class_named.ensures.found in
    let named = subst (λ (m : Tables). NamesClass m c.args.class.now c.in_ok-class.class) c.model-model.ensures.value names in
    let typed = subst WellTyped c.model-model.ensures.value c.tables-typed.ensures.typed in
    let fresh = was_absent (¬ IsLive net.topology c.args.name.now) c.instance_named.result c.is_some.result c.is_some.ensures c.if-is_some.false c.instance_named.ensures.absent in
    let are = c.with.ensures net.topology c.args.name.now (sym c.model-model.ensures.value) fresh c.requires.counts in
    passed_err _ c.from_residual-in_err-are_within.result (IsRefused net.topology (Create c.args.name.now c.args.class.now)) c.from_residual-in_err-are_within.ensures.1
    (beyond_limit net.topology c.args.name.now c.args.class.now c.in_ok-class.class named typed fresh (omega arith) c.with.result are _ c.in_err-are_within.ensures.beyond)

use Rattle.std.proofs.Common.{◌≡◌, ◌<◌, ℕ, List, length, sym, subst, ◌∙◌, arith}
use Rattle.std.specs.Prelude.{vec_capacity}
use Rattle.cb_model.specs.declared.id.EventId.{EventId}
use Rattle.cb_model.specs.declared.tables.Tables.{Tables}
use Rattle.cb_model.specs.Views.{AreEventsOf}
use Rattle.cb_model.specs.WellTyped.{IsClass}
use Rattle.cb_network.specs.declared.edit.Edit.{Edit}
use Rattle.cb_network.specs.declared.edit.Edit.TheVariants.{Create}
use Rattle.cb_instances.specs.Net.{IsNamed}
use Rattle.cb_nodes.proofs.Events.{events_once}
use Rattle.cb_topo.specs.Applied.{Applies}
use Rattle.cb_topo.specs.Numbered.{topology_of}
use Rattle.cb_cache.specs.Created.{IsNewProblem}
use Rattle.cb_cache.specs.Most.{HasEventsWithin}
use Rattle.cb_cache.proofs.Creating.{class_is_named, new_listed, no_more_events}
use Rattle.cb_cache.proofs.create.list_new.Goals as goal

pub events_of-requires : goal.events_of-requires
events_of-requires c = subst (λ (m : Tables). IsClass m c.class_of-class.result) (sym c.model.ensures.value) c.class_of-class.ensures.class

pub list_problems_among-requires-clause-once : goal.list_problems_among-requires-clause-once
list_problems_among-requires-clause-once c =
    let m = c.model.result.now in
    let class = c.class_of-class.result in
    let are = subst (λ (xs : List EventId). AreEventsOf m class xs) (sym c.as_slice-events.ensures) c.events_of.ensures in
    events_once m class c.as_slice-events.result.now are

pub list_problems_among-requires-clause-capacity : goal.list_problems_among-requires-clause-capacity
list_problems_among-requires-clause-capacity c =
    let new = c.args.topology.now in
    let name = c.in-Create.name in
    let class = c.in-Create.class in
    let (old, made) = c.requires.made in
    let applies = subst (λ (e : Edit). Applies old e new) c.in-Create.is made in
    let instance = c.in-Some.instance in
    let called = subst (λ (x : List ℕ). IsNamed new.net instance x) c.bytes.ensures c.in-Some.ensures.found in
    let k = c.class_of-class.result in
    let names = class_is_named old new name class applies k (c.class_of-class.ensures.named name called) in
    let events = c.as_slice-events.result.now in
    let listed = subst (λ (xs : List EventId). AreEventsOf c.model.result.now k xs) (sym c.as_slice-events.ensures) c.events_of.ensures in
    let are = subst (λ (m : Tables). AreEventsOf m k events) c.model.ensures.value listed in
    let within = subst (λ (e : Edit). HasEventsWithin (topology_of new).model e (vec_capacity c.args.list.now)) c.in-Create.is c.requires.capacity in
    let few = no_more_events old new name class applies c.model.ensures.whole c.model.ensures.typed instance called k names events are (vec_capacity c.args.list.now) within in
    let same = c.clear.ensures.capacity in
    omega arith

pub returns-clause-problems : goal.returns-clause-problems
returns-clause-problems c = λ id.
    let new = c.args.topology.now in
    let name = c.in-Create.name in
    let class = c.in-Create.class in
    let (old, made) = c.requires.made in
    let applies = subst (λ (e : Edit). Applies old e new) c.in-Create.is made in
    let instance = c.in-Some.instance in
    let called = subst (λ (x : List ℕ). IsNamed new.net instance x) c.bytes.ensures c.in-Some.ensures.found in
    let k = c.class_of-class.result in
    let names = class_is_named old new name class applies k (c.class_of-class.ensures.named name called) in
    let events = c.as_slice-events.result.now in
    let listed = subst (λ (xs : List EventId). AreEventsOf c.model.result.now k xs) (sym c.as_slice-events.ensures) c.events_of.ensures in
    let are = subst (λ (m : Tables). AreEventsOf m k events) c.model.ensures.value listed in
    let cases = new_listed old new name class applies c.model.ensures.whole c.model.ensures.typed instance called k names events are id in
    let own = c.list_problems_among.ensures.problems id in
    let edit = c.in-Create.is in
    (λ has. subst (λ (e : Edit). IsNewProblem new e id) (sym edit) (cases.0 (own.0 has)), λ is. own.1 (cases.1 (subst (λ (e : Edit). IsNewProblem new e id) edit is)))

pub returns-clause-few : goal.returns-clause-few
returns-clause-few c = λ most within.
    let new = c.args.topology.now in
    let name = c.in-Create.name in
    let class = c.in-Create.class in
    let (old, made) = c.requires.made in
    let applies = subst (λ (e : Edit). Applies old e new) c.in-Create.is made in
    let instance = c.in-Some.instance in
    let called = subst (λ (x : List ℕ). IsNamed new.net instance x) c.bytes.ensures c.in-Some.ensures.found in
    let k = c.class_of-class.result in
    let names = class_is_named old new name class applies k (c.class_of-class.ensures.named name called) in
    let events = c.as_slice-events.result.now in
    let listed = subst (λ (xs : List EventId). AreEventsOf c.model.result.now k xs) (sym c.as_slice-events.ensures) c.events_of.ensures in
    let are = subst (λ (m : Tables). AreEventsOf m k events) c.model.ensures.value listed in
    let here = subst (λ (e : Edit). HasEventsWithin (topology_of new).model e most) c.in-Create.is within in
    let few = no_more_events old new name class applies c.model.ensures.whole c.model.ensures.typed instance called k names events are most here in
    let short = c.list_problems_among.ensures.few in
    omega arith

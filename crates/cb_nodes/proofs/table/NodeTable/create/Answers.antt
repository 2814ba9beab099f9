use Rattle.std.proofs.Common.{◌≡◌, ◌≤◌, ◌+◌, ◌∙◌, vec_len, vec_capacity, length, refl, sym, ap, subst, arith}
use Rattle.std.proofs.lemmas.Option.{slice_get_within, same_Some}
use Rattle.cb_model.specs.declared.tables.Tables.{Tables}
use Rattle.cb_model.specs.Views.{AreEventsOf}
use Rattle.cb_network.specs.Topology.{Topology}
use Rattle.cb_instances.specs.declared.id.InstanceId.{InstanceId}
use Rattle.cb_instances.specs.Net.{IsFree, Creates}
use Rattle.cb_instances.proofs.Placing.{same_id}
use Rattle.cb_nodes.specs.Kept.{HasSpareFor, ListsEvents, items_in}
use Rattle.cb_nodes.proofs.Events.{events_once, one_count}
use Rattle.cb_nodes.proofs.Listing.{same_sound, numbered_sound, list_set, list_read, none_there}
use Rattle.cb_nodes.proofs.table.NodeTable.create.Goals as goal

pub invariant_of-self : goal.invariant_of-self
invariant_of-self c =
    let same = c.in_err-reserve.ensures.same in
    same_sound c.self.inside.numbers _ c.self.inside.lists.items _ same.kept same.slots (λ i. refl) c.self.invariant

pub invariant_of-self-in_err-reserve-2 : goal.invariant_of-self-in_err-reserve-2
invariant_of-self-in_err-reserve-2 c =
    let same = c.in_ok-reserve.ensures.same in
    same_sound c.self.inside.numbers _ c.self.inside.lists.items _ same.kept same.slots c.in_err-reserve-2.ensures.same c.self.invariant

pub invariant_of-self-in_err-create : goal.invariant_of-self-in_err-create
invariant_of-self-in_err-create c =
    let same = c.in_ok-reserve.ensures.same in
    same_sound c.self.inside.numbers _ c.self.inside.lists.items _ same.kept same.slots c.in_ok-reserve-2.ensures.same c.self.invariant

pub index_mut-list-requires : goal.index_mut-list-requires
index_mut-list-requires c =
    let fits = c.in_ok-reserve-2.ensures.spare in
    let lists = c.reserve-2.new.lists.items in
    let at = c.next-instance.result in
    let lt = slice_get_within lists at.0 fits.list fits.is in
    omega (arith, c.reserve-2.new.lists.ok.0)

pub number_events-requires-clause-listed : goal.number_events-requires-clause-listed
number_events-requires-clause-listed c =
    let fits = c.in_ok-reserve-2.ensures.spare in
    let lists = c.reserve-2.new.lists.items in
    let at = c.next-instance.result in
    let lt = slice_get_within lists at.0 fits.list fits.is in
    let same = c.in_ok-reserve.ensures.same in
    let sound = same_sound c.self.inside.numbers c.reserve.new.self c.self.inside.lists.items lists same.kept same.slots c.in_ok-reserve-2.ensures.same c.self.invariant in
    subst (ListsEvents c.reserve.new.self.slots.items at) (ap items_in (list_read lists at c.index_mut-list.result.now lt c.index_mut-list.ensures.value)) (sound.listed at)

pub number_events-requires-clause-new : goal.number_events-requires-clause-new
number_events-requires-clause-new c =
    let at = c.next-instance.result in
    let here = same_id c.in_ok-create.field-0 at (c.in_ok-create.ensures.number ∙ sym c.next-instance.ensures) in
    let free = subst (IsFree c.args.net.now) here c.in_ok-create.ensures.created.free in
    none_there c.args.self.now _ at (c.in_ok-reserve.ensures.same.slots ∙ c.self.view_is) (λ e. c.requires.freed at e free)

pub number_events-requires-clause-once : goal.number_events-requires-clause-once
number_events-requires-clause-once c =
    let made = c.in_ok-create.ensures.created.made in
    let model : c.model-2.result.now ≡ c.model.result.now = c.model-2.ensures.value ∙ (ap (λ (t : Topology). t.model) made ∙ sym c.model.ensures.value) in
    let events = c.as_slice-events.result.now in
    let are = subst (λ (t : Tables). AreEventsOf t c.args.class events) model (subst (λ es. AreEventsOf c.model-2.result.now c.args.class es) (sym c.as_slice-events.ensures) c.events_of-2.ensures) in
    events_once c.model.result.now c.args.class events are

pub number_events-requires-clause-spare : goal.number_events-requires-clause-spare
number_events-requires-clause-spare c =
    let made = c.in_ok-create.ensures.created.made in
    let model : c.model-2.result.now ≡ c.model.result.now = c.model-2.ensures.value ∙ (ap (λ (t : Topology). t.model) made ∙ sym c.model.ensures.value) in
    let events = c.as_slice-events.result.now in
    let are = subst (λ (t : Tables). AreEventsOf t c.args.class events) model (subst (λ es. AreEventsOf c.model-2.result.now c.args.class es) (sym c.as_slice-events.ensures) c.events_of-2.ensures) in
    let count : c.len-count.result ≡ length events = c.len-count.ensures ∙ one_count c.model.result.now c.args.class c.events_of.result.now events c.events_of.ensures are in
    subst (HasSpareFor c.reserve.new.self) count c.in_ok-reserve.ensures.spare

pub number_events-requires-clause-list_spare : goal.number_events-requires-clause-list_spare
number_events-requires-clause-list_spare c =
    let fits = c.in_ok-reserve-2.ensures.spare in
    let lists = c.reserve-2.new.lists.items in
    let at = c.next-instance.result in
    let lt = slice_get_within lists at.0 fits.list fits.is in
    let made = c.in_ok-create.ensures.created.made in
    let model : c.model-2.result.now ≡ c.model.result.now = c.model-2.ensures.value ∙ (ap (λ (t : Topology). t.model) made ∙ sym c.model.ensures.value) in
    let events = c.as_slice-events.result.now in
    let are = subst (λ (t : Tables). AreEventsOf t c.args.class events) model (subst (λ es. AreEventsOf c.model-2.result.now c.args.class es) (sym c.as_slice-events.ensures) c.events_of-2.ensures) in
    let count : c.len-count.result ≡ length events = c.len-count.ensures ∙ one_count c.model.result.now c.args.class c.events_of.result.now events c.events_of.ensures are in
    let same : fits.list ≡ c.index_mut-list.result.now = same_Some fits.list c.index_mut-list.result.now (sym fits.is ∙ list_read lists at c.index_mut-list.result.now lt c.index_mut-list.ensures.value) in
    subst (λ n. vec_len c.index_mut-list.result.now + n ≤ vec_capacity c.index_mut-list.result.now) count
    (subst (λ v. vec_len v + c.len-count.result ≤ vec_capacity v) same fits.spare)

pub invariant_of-self-2 : goal.invariant_of-self-2
invariant_of-self-2 c =
    let fits = c.in_ok-reserve-2.ensures.spare in
    let lists = c.reserve-2.new.lists.items in
    let at = c.next-instance.result in
    let lt = slice_get_within lists at.0 fits.list fits.is in
    let same = c.in_ok-reserve.ensures.same in
    let sound = same_sound c.self.inside.numbers c.reserve.new.self c.self.inside.lists.items lists same.kept same.slots c.in_ok-reserve-2.ensures.same c.self.invariant in
    numbered_sound c.reserve.new.self c.number_events.new.numbers lists _ at c.number_events.new.list.items c.as_slice-events.result.now c.number_events.ensures (list_set lists at c.number_events.new.list lt) sound

pub returns-clause-created : goal.returns-clause-created
returns-clause-created c =
    let here = same_id c.in_ok-create.field-0 c.next-instance.result (c.in_ok-create.ensures.number ∙ sym c.next-instance.ensures) in
    subst (λ (i : InstanceId). Creates c.args.net.now c.create.new.self i c.args.name.now c.args.class) here c.in_ok-create.ensures.created

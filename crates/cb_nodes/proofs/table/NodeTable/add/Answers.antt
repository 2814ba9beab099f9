use Rattle.std.proofs.Common.{◌≡◌, ◌≤◌, ◌+◌, ◌∙◌, vec_len, vec_capacity, length, refl, sym, ap, subst, arith}
use Rattle.std.proofs.lemmas.Option.{slice_get_within, same_Some}
use Rattle.cb_nodes.specs.Kept.{ListsEvents, items_in}
use Rattle.cb_nodes.proofs.Listing.{same_sound, numbered_sound, list_set, list_read, none_there}
use Rattle.cb_nodes.proofs.table.NodeTable.add.Goals as goal

pub invariant_of-self : goal.invariant_of-self
invariant_of-self c =
    let same = c.in_err-reserve.ensures.same in
    same_sound c.self.inside.numbers _ c.self.inside.lists.items _ same.kept same.slots (λ i. refl) c.self.invariant

pub invariant_of-self-in_err-reserve-2 : goal.invariant_of-self-in_err-reserve-2
invariant_of-self-in_err-reserve-2 c =
    let same = c.in_ok-reserve.ensures.same in
    same_sound c.self.inside.numbers _ c.self.inside.lists.items _ same.kept same.slots c.in_err-reserve-2.ensures.same c.self.invariant

pub index_mut-requires : goal.index_mut-requires
index_mut-requires c =
    let fits = c.in_ok-reserve-2.ensures.spare in
    let lt = slice_get_within c.reserve-2.new.lists.items c.args.instance.0 fits.list fits.is in
    omega (arith, c.reserve-2.new.lists.ok.0)

pub number_events-requires-clause-listed : goal.number_events-requires-clause-listed
number_events-requires-clause-listed c =
    let fits = c.in_ok-reserve-2.ensures.spare in
    let lists = c.reserve-2.new.lists.items in
    let lt = slice_get_within lists c.args.instance.0 fits.list fits.is in
    let same = c.in_ok-reserve.ensures.same in
    let sound = same_sound c.self.inside.numbers c.reserve.new.self c.self.inside.lists.items lists same.kept same.slots c.in_ok-reserve-2.ensures.same c.self.invariant in
    subst (ListsEvents c.reserve.new.self.slots.items c.args.instance) (ap items_in (list_read lists c.args.instance c.index_mut.result.now lt c.index_mut.ensures.value)) (sound.listed c.args.instance)

pub number_events-requires-clause-new : goal.number_events-requires-clause-new
number_events-requires-clause-new c = none_there c.args.self.now _ c.args.instance (c.in_ok-reserve.ensures.same.slots ∙ c.self.view_is) c.requires.new

pub number_events-requires-clause-list_spare : goal.number_events-requires-clause-list_spare
number_events-requires-clause-list_spare c =
    let fits = c.in_ok-reserve-2.ensures.spare in
    let lists = c.reserve-2.new.lists.items in
    let lt = slice_get_within lists c.args.instance.0 fits.list fits.is in
    let same : fits.list ≡ c.index_mut.result.now = same_Some fits.list c.index_mut.result.now (sym fits.is ∙ list_read lists c.args.instance c.index_mut.result.now lt c.index_mut.ensures.value) in
    subst (λ v. vec_len v + length c.args.events.now ≤ vec_capacity v) same fits.spare

pub invariant_of-self-2 : goal.invariant_of-self-2
invariant_of-self-2 c =
    let fits = c.in_ok-reserve-2.ensures.spare in
    let lists = c.reserve-2.new.lists.items in
    let lt = slice_get_within lists c.args.instance.0 fits.list fits.is in
    let same = c.in_ok-reserve.ensures.same in
    let sound = same_sound c.self.inside.numbers c.reserve.new.self c.self.inside.lists.items lists same.kept same.slots c.in_ok-reserve-2.ensures.same c.self.invariant in
    numbered_sound c.reserve.new.self c.number_events.new.numbers lists _ c.args.instance c.number_events.new.list.items c.args.events.now c.number_events.ensures (list_set lists c.args.instance c.number_events.new.list lt) sound

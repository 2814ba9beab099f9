use Rattle.std.proofs.Common.{◌≤◌, ◌∙◌, [], length, sym, ap, subst}
use Rattle.std.specs.List.{slice_set}
use Rattle.std.proofs.lemmas.Option.{slice_get_past}
use Rattle.cb_nodes.specs.Kept.{items_in}
use Rattle.cb_nodes.specs.Table.{Table, Removes}
use Rattle.cb_nodes.proofs.Freeing.{removed, removed_none, removed_sound, have_numbers, listed_there}
use Rattle.cb_nodes.proofs.Listing.{list_set, list_read, SetsList}
use Rattle.cb_nodes.proofs.table.NodeTable.remove.Goals as goal

pub free_all-requires-clause-had : goal.free_all-requires-clause-had
free_all-requires-clause-had c =
    let is = ap items_in (list_read c.self.inside.lists.items c.args.instance c.in-Some.list.now c.in-Some.ensures.item.3.0 c.in-Some.ensures.value) ∙ sym c.deref.ensures.value in
    have_numbers c.self.inside.numbers.slots.items c.args.instance c.deref.result.now (listed_there c.self.inside.numbers c.self.inside.lists.items c.args.instance _ is c.self.invariant)

pub free_all-requires-clause-apart : goal.free_all-requires-clause-apart
free_all-requires-clause-apart c =
    let is = ap items_in (list_read c.self.inside.lists.items c.args.instance c.in-Some.list.now c.in-Some.ensures.item.3.0 c.in-Some.ensures.value) ∙ sym c.deref.ensures.value in
    (listed_there c.self.inside.numbers c.self.inside.lists.items c.args.instance c.deref.result.now is c.self.invariant).apart

pub invariant_of-self : goal.invariant_of-self
invariant_of-self c =
    let lists = c.self.inside.lists.items in
    let is = ap items_in (list_read lists c.args.instance c.in-Some.list.now c.in-Some.ensures.item.3.0 c.in-Some.ensures.value) ∙ sym c.deref.ensures.value in
    let sets : SetsList lists (slice_set lists c.args.instance.0 c.clear.new.self) c.args.instance [] = subst (SetsList lists (slice_set lists c.args.instance.0 c.clear.new.self) c.args.instance) c.clear.ensures.items (list_set lists c.args.instance c.clear.new.self c.in-Some.ensures.item.3.0) in
    removed_sound c.self.inside.numbers c.free_all.new.numbers lists _ c.args.instance c.deref.result.now is c.free_all.ensures sets c.self.invariant

pub returns-in-Some : goal.returns-in-Some
returns-in-Some c =
    let is = ap items_in (list_read c.self.inside.lists.items c.args.instance c.in-Some.list.now c.in-Some.ensures.item.3.0 c.in-Some.ensures.value) ∙ sym c.deref.ensures.value in
    let listed = listed_there c.self.inside.numbers c.self.inside.lists.items c.args.instance c.deref.result.now is c.self.invariant in
    subst (λ (t : Table). Removes t c.free_all.new.numbers.slots.items c.args.instance) c.self.view_is
    (removed c.self.inside.numbers c.free_all.new.numbers c.args.instance c.deref.result.now c.self.invariant.one listed c.free_all.ensures)

pub returns-in_default : goal.returns-in_default
returns-in_default c =
    let past : length c.self.inside.lists.items ≤ c.args.instance.0 = c.in_default.ensures.item.3 in
    subst (λ (t : Table). Removes t c.self.inside.numbers.slots.items c.args.instance) c.self.view_is
    (removed_none c.self.inside.numbers c.self.inside.lists.items c.args.instance (ap items_in (slice_get_past c.self.inside.lists.items c.args.instance.0 past)) c.self.invariant)

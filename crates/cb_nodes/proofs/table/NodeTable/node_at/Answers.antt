use Rattle.std.proofs.Common.{◌≡◌, ◌≤◌, ◌∙◌, [], length, sym, ap, subst}
use Rattle.std.specs.Prelude.{IfSome}
use Rattle.std.proofs.lemmas.Option.{slice_get_past}
use Rattle.cb_model.proofs.Rising.{nothing_in_empty}
use Rattle.cb_nodes.specs.Kept.{NodeLists, items_in, list_at}
use Rattle.cb_nodes.specs.Table.{Table, IsNode, node_of, NumbersEvent}
use Rattle.cb_nodes.proofs.Freeing.{found_node, no_node, if_none, if_none_at_all}
use Rattle.cb_nodes.proofs.Listing.{list_read}
use Rattle.cb_nodes.proofs.table.NodeTable.node_at.Goals as goal

pub returns-in_err-list-clause-absent : goal.returns-in_err-list-clause-absent
returns-in_err-list-clause-absent c =
    let lists = c.self.inside.lists.items in
    let past : length lists ≤ c.args.instance.0 = subst (λ (ls : NodeLists). length ls ≤ c.args.instance.0) c.deref.ensures.value c.in_err-list.ensures.lookup.3 in
    let none = no_node c.self.inside.numbers lists c.args.instance [] c.args.event (ap items_in (slice_get_past lists c.args.instance.0 past)) c.self.invariant (λ x has e. nothing_in_empty x has) in
    if_none_at_all _ (¬ NumbersEvent c.args.self.now c.args.instance c.args.event) (subst (λ (t : Table). ¬ NumbersEvent t c.args.instance c.args.event) c.self.view_is none)

pub returns-clause-found : goal.returns-clause-found
returns-clause-found c =
    let lists = c.deref.result.now in
    let is = ap items_in (list_read lists c.args.instance c.in_ok-list.list.now c.in_ok-list.ensures.lookup.3.0 c.in_ok-list.ensures.lookup.1) ∙ sym c.deref-2.ensures.value in
    let here = subst (λ (ls : NodeLists). list_at ls c.args.instance ≡ c.deref-2.result.now) c.deref.ensures.value is in
    subst (λ (t : Table). IfSome c.number_of.result (λ id. IsNode t id (node_of c.args.instance c.args.event))) c.self.view_is
    (found_node c.self.inside.numbers c.self.inside.lists.items c.args.instance c.deref-2.result.now c.args.event c.number_of.result here c.self.invariant c.number_of.ensures.found)

pub returns-clause-absent : goal.returns-clause-absent
returns-clause-absent c =
    let lists = c.deref.result.now in
    let is = ap items_in (list_read lists c.args.instance c.in_ok-list.list.now c.in_ok-list.ensures.lookup.3.0 c.in_ok-list.ensures.lookup.1) ∙ sym c.deref-2.ensures.value in
    let here = subst (λ (ls : NodeLists). list_at ls c.args.instance ≡ c.deref-2.result.now) c.deref.ensures.value is in
    if_none c.number_of.result _ (¬ NumbersEvent c.args.self.now c.args.instance c.args.event)
    (λ none. subst (λ (t : Table). ¬ NumbersEvent t c.args.instance c.args.event) c.self.view_is
    (no_node c.self.inside.numbers c.self.inside.lists.items c.args.instance c.deref-2.result.now c.args.event here c.self.invariant none))
    c.number_of.ensures.absent

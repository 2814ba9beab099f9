use Rattle.std.proofs.Common.{◌≡◌, ◌↔◌, ℕ, List, Option, length, sym, subst, ◌∙◌}
use Rattle.cb_change.specs.Costs.{IsEditCost, CountsAtMost}
use Rattle.cb_change.specs.Laws.{IsStep}
use Rattle.cb_network.specs.declared.edit.Edit.{Edit}
use Rattle.cb_network.specs.declared.edit.Edit.TheVariants.{Create, Delete, Link, Unlink, Mute, Unmute}
use Rattle.cb_pool.specs.declared.slot.Slot.{Slot}
use Rattle.cb_successors.specs.Rows.{Has}
use Rattle.cb_topo.specs.Applied.{IsNodeCapacityAfter}
use Rattle.cb_topo.specs.Accepted.{IsDecided}
use Rattle.cb_topo.specs.Numbered.{Numbered, topology_of}
use Rattle.cb_graph.specs.Touched.{IsTouchedNumber}
use Rattle.cb_cache.specs.Kept.{AreRight}
use Rattle.cb_cache.specs.Laws.{IsEdited}
use Rattle.cb_cache.specs.Extended.{MakesLink, IsAfterLink}
use Rattle.cb_cache.proofs.link.link.Goals as goal

-- a link brings no node
link_capacity : (n : Numbered) (edit : Edit) (capacity : ℕ) → MakesLink edit → IsNodeCapacityAfter n edit capacity → capacity ≡ length n.nodes
link_capacity n (Create name class) capacity none is = absurd none
link_capacity n (Delete name) capacity none is = absurd none
link_capacity n (Link a rel b) capacity _ is = is
link_capacity n (Unlink a rel b) capacity none is = absurd none
link_capacity n (Mute event name) capacity none is = absurd none
link_capacity n (Unmute event name) capacity none is = absurd none

pub extend_rows-requires-clause-linked : goal.extend_rows-requires-clause-linked
extend_rows-requires-clause-linked g c =
    let old = c.args.graph.now in
    let new = c.edit_graph.new.graph in
    let edit = c.args.accepted.now.edit.now in
    let edited : IsEdited old edit new = subst (λ (m : Numbered). IsEdited m edit new) c.touched.ensures.same c.in_ok-edit_graph.ensures.made in
    let step : IsStep (topology_of old) edit (topology_of new) = record { before = edited.sound; accepted = edited.applies.after; afterwards = edited.sound_after } in
    let reported : (k : ℕ) → Has c.touched.new.out k ↔ IsTouchedNumber old (topology_of new) k = c.touched.ensures.exactly (topology_of new) step in
    (old, edit, record { link = c.requires.link; edited = edited; right = subst (λ (xs : List (Option Slot)). AreRight old xs c.args.store.now.rows.pool) (sym c.deref.ensures.value) c.requires.kept.right; marked = reported; capacity = c.touched.ensures.length ∙ c.requires.kept.agenda.touched ∙ sym (link_capacity old edit (length new.nodes) c.requires.link edited.applies.node_capacity) })

pub returns-clause-cost : goal.returns-clause-cost
returns-clause-cost g c =
    let old = c.args.graph.now in
    let new = c.edit_graph.new.graph in
    let edit = c.args.accepted.now.edit.now in
    let edited : IsEdited old edit new = subst (λ (m : Numbered). IsEdited m edit new) c.touched.ensures.same c.in_ok-edit_graph.ensures.made in
    let step : IsStep (topology_of old) edit (topology_of new) = record { before = edited.sound; accepted = edited.applies.after; afterwards = edited.sound_after } in
    let reported : (k : ℕ) → Has c.touched.new.out k ↔ IsTouchedNumber old (topology_of new) k = c.touched.ensures.exactly (topology_of new) step in
    let rows = c.args.store.now.rows in
    let linked : IsAfterLink old edit new c.touched.new.out c.deref.result.now rows.pool =
    record { link = c.requires.link; edited = edited; right = subst (λ (xs : List (Option Slot)). AreRight old xs c.args.store.now.rows.pool) (sym c.deref.ensures.value) c.requires.kept.right; marked = reported; capacity = c.touched.ensures.length ∙ c.requires.kept.agenda.touched ∙ sym (link_capacity old edit (length new.nodes) c.requires.link edited.applies.node_capacity) } in
    subst (λ (m : Numbered). CountsAtMost (IsEditCost (topology_of old) edit (topology_of m)) c.args.steps.now c.extend_rows.new.steps) (sym c.extend_rows.ensures.same)
    (c.extend_rows.ensures.cost old edit linked)

pub edit_graph-requires-clause-decided : goal.edit_graph-requires-clause-decided
edit_graph-requires-clause-decided g c = subst (λ (n : Numbered). IsDecided n c.args.accepted.now) (sym c.touched.ensures.same) c.requires.decided

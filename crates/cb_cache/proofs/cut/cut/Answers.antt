use Rattle.std.proofs.Common.{◌↔◌, ℕ, sym, subst}
use Rattle.cb_change.specs.Costs.{IsEditCost, CountsAtMost}
use Rattle.cb_change.specs.Laws.{IsStep}
use Rattle.cb_successors.specs.Rows.{Has}
use Rattle.cb_topo.specs.Accepted.{IsDecided}
use Rattle.cb_topo.specs.Numbered.{Numbered, topology_of}
use Rattle.cb_graph.specs.Touched.{IsTouchedNumber}
use Rattle.cb_cache.specs.Laws.{IsEdited}
use Rattle.cb_cache.specs.Stale.{FollowsEdit}
use Rattle.cb_cache.proofs.cut.cut.Goals as goal

pub search_again-requires-clause-follows : goal.search_again-requires-clause-follows
search_again-requires-clause-follows g c =
    let old = c.args.graph.now in
    let new = c.edit_graph.new.graph in
    let edit = c.args.accepted.now.edit.now in
    let edited : IsEdited old edit new = subst (λ (m : Numbered). IsEdited m edit new) c.touched.ensures.same c.in_ok-edit_graph.ensures.made in
    let step : IsStep (topology_of old) edit (topology_of new) = record { before = edited.sound; accepted = edited.applies.after; afterwards = edited.sound_after } in
    let reported : (k : ℕ) → Has c.touched.new.out k ↔ IsTouchedNumber old (topology_of new) k = c.touched.ensures.exactly (topology_of new) step in
    (old, edit, c.requires.takes, record { edited = edited; right = c.requires.kept.right; reported = reported })

pub returns-clause-cost : goal.returns-clause-cost
returns-clause-cost g c =
    let old = c.args.graph.now in
    let new = c.edit_graph.new.graph in
    let edit = c.args.accepted.now.edit.now in
    let edited : IsEdited old edit new = subst (λ (m : Numbered). IsEdited m edit new) c.touched.ensures.same c.in_ok-edit_graph.ensures.made in
    let step : IsStep (topology_of old) edit (topology_of new) = record { before = edited.sound; accepted = edited.applies.after; afterwards = edited.sound_after } in
    let reported : (k : ℕ) → Has c.touched.new.out k ↔ IsTouchedNumber old (topology_of new) k = c.touched.ensures.exactly (topology_of new) step in
    let rows = c.args.store.now.rows in
    let follows : FollowsEdit old edit new c.touched.new.out rows.slots.items rows.pool = record { edited = edited; right = c.requires.kept.right; reported = reported } in
    subst (λ (m : Numbered). CountsAtMost (IsEditCost (topology_of old) edit (topology_of m)) c.args.steps.now c.search_again.new.steps) (sym c.search_again.ensures.same)
    (c.search_again.ensures.cost old edit c.requires.takes follows)

pub edit_graph-requires-clause-decided : goal.edit_graph-requires-clause-decided
edit_graph-requires-clause-decided g c = subst (λ (n : Numbered). IsDecided n c.args.accepted.now) (sym c.touched.ensures.same) c.requires.decided

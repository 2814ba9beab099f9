use Rattle.std.proofs.Common.{◌≡◌, ◌<◌, ◌↔◌, ◌⊎◌, ℕ, List, length, get_or, refl, sym, subst, ◌∙◌, arith}
use Rattle.std.specs.List.{Contains}
use Rattle.std.proofs.lemmas.Option.{slice_get_read, slice_get-get_or}
use Rattle.cb_successors.specs.Rows.{Has}
use Rattle.cb_breadth.specs.Lists.{AreBelow}
use Rattle.cb_topo.specs.Numbered.{Numbered}
use Rattle.cb_graph.specs.Edges.{EdgeAt}
use Rattle.cb_span.specs.Orders.{IsOrderOf}
use Rattle.cb_levels.specs.declared.levels.LevelEntry.{LevelEntry}
use Rattle.cb_explain.specs.Surveyed.{IsChildAmong, IsLedBefore, IsLeastWrongAmong, IsKnownOr, IsFirstWrongIfAny}
use Rattle.cb_explain.proofs.Listing.{live_below, lists_live}
use Rattle.cb_explain.proofs.Leading.{ends_below, led_more}
use Rattle.cb_explain.proofs.Lacking.{lack_more}
use Rattle.cb_explain.proofs.survey.ask_all.Goals as goal

pub list_successors-requires : goal.list_successors-requires
list_successors-requires g c =
    let n = c.args.graph.now in
    let levels = c.args.levels.now in
    let nodes = c.args.listed.now.nodes.items in
    let position = c.loop-position.position in
    let id = c.index.result.now in
    let low : position < length nodes = omega (arith, c.loop-position-test.true, c.len-position-end.ensures) in
    let at = slice_get_read nodes (length nodes) position id refl low c.index.ensures in
    let below = live_below n id (lists_live n levels position id (c.requires.each position id at)) in
    record { node = subst (λ (m : Numbered). id.0 < length m.nodes) (sym c.loop-position.invariant.same) below }

pub mark_children-requires-clause-below : goal.mark_children-requires-clause-below
mark_children-requires-clause-below g c =
    let id = c.index.result.now in
    let items = c.list_successors.new.list.items in
    let edges = subst (λ (m : Numbered). (k : ℕ) → Contains items k ↔ EdgeAt m id.0 k) c.loop-position.invariant.same c.in_ok-list_successors.ensures.list in
    subst (λ (xs : List ℕ). AreBelow (length c.args.listed.now.positions.items) xs) (sym c.deref.ensures.value)
    (subst (λ k. AreBelow k items) (sym c.requires.capacity) (ends_below c.args.graph.now id.0 items edges))

pub first_wrong-wrong-requires-clause-below : goal.first_wrong-wrong-requires-clause-below
first_wrong-wrong-requires-clause-below g c =
    let id = c.index.result.now in
    let items = c.list_successors.new.list.items in
    let edges = subst (λ (m : Numbered). (k : ℕ) → Contains items k ↔ EdgeAt m id.0 k) c.loop-position.invariant.same c.in_ok-list_successors.ensures.list in
    subst (λ (xs : List ℕ). AreBelow (length c.args.listed.now.positions.items) xs) (sym c.deref-in-loop-position-2.ensures.value)
    (subst (λ k. AreBelow k items) (sym c.requires.capacity) (ends_below c.args.graph.now id.0 items edges))

pub loop-position-preserved : goal.loop-position-preserved
loop-position-preserved g c =
    let n = c.args.graph.now in
    let levels = c.args.levels.now in
    let nodes = c.args.listed.now.nodes.items in
    let kept = c.loop-position.invariant in
    let position = c.loop-position.position in
    let id = c.index.result.now in
    let low : position < length nodes = omega (arith, c.loop-position-test.true, c.len-position-end.ensures) in
    let at = slice_get_read nodes (length nodes) position id refl low c.index.ensures in
    let none : LevelEntry = record { node = 0; level = 0; parent = 0 } in
    let within = c.requires.within in
    let entry_is = slice_get-get_or levels.entries position none (omega arith) in
    let items = c.list_successors.new.list.items in
    let listed = c.in_ok-list_successors.ensures in
    let edges = subst (λ (m : Numbered). (k : ℕ) → Contains items k ↔ EdgeAt m id.0 k) kept.same listed.list in
    let order = c.in_ok-order.order in
    let ord = subst (λ (m : Numbered). IsOrderOf m order) c.topology.ensures c.in_ok-order.ensures.order in
    let old = c.loop-position.led.items in
    let new = c.mark_children.new.led.items in
    let marked = subst (λ (xs : List ℕ). (i : ℕ) → Has new i ↔ (Has old i ⊎ IsChildAmong levels nodes position xs i)) c.deref.ensures.value c.mark_children.ensures.led in
    let known = c.loop-position.wrong in
    let lack = c.first_wrong-wrong.result in
    let by_ranks = subst (λ (rs : List ℕ). IsKnownOr known (IsLeastWrongAmong rs levels nodes c.deref-in-loop-position-2.result.now position) lack)
    c.deref-in-loop-position.ensures.value c.first_wrong-wrong.ensures
    in
    let by_items = subst (λ (xs : List ℕ). IsKnownOr known (IsLeastWrongAmong order.ranks.items levels nodes xs position) lack) c.deref-in-loop-position-2.ensures.value by_ranks in
    record {
      same = listed.same ∙ kept.same;
      asked = let step = listed.step in let before = kept.asked in omega arith;
      capacity = c.mark_children.ensures.capacity ∙ kept.capacity;
      led = led_more n levels nodes position id items old new at edges kept.led marked;
      wrong = lack_more n levels nodes order ord items position id at (get_or levels.entries position none) entry_is edges known lack kept.wrong by_items;
    }

pub returns-clause-survey : goal.returns-clause-survey
returns-clause-survey g c =
    let n = c.args.graph.now in
    let levels = c.args.levels.now in
    let nodes = c.args.listed.now.nodes.items in
    let kept = c.loop-position.invariant in
    let led = c.loop-position.led.items in
    let most = c.loop-position.auto.position-end in
    let end : c.loop-position.position ≡ length nodes = omega (arith, c.loop-position-test.false, c.len-position-end.ensures) in
    record {
      capacity = kept.capacity;
      led = subst (λ k. (i : ℕ) → Has led i ↔ IsLedBefore n levels nodes k i) end kept.led;
      wrong = subst (λ k. IsFirstWrongIfAny n levels nodes k c.loop-position.wrong) end kept.wrong;
    }

use Rattle.std.proofs.Common.{◌≡◌, ◌-◌, List, [], ◌∷◌, length, take, drop, inl, inr, sym, ap, subst, ◌∙◌, arith}
use Rattle.std.specs.List.{All}
use Rattle.std.proofs.lemmas.List.{take-append-drop}
use Rattle.cb_coding.specs.Groups.{zeros}
use Rattle.cb_codes.specs.Grouped.{group, groups_in, FitsTogether}
use Rattle.cb_nodes.specs.declared.id.NodeId.{NodeId}
use Rattle.cb_topo.specs.Numbered.{Numbered, IsLiveNode, IsWhole}
use Rattle.cb_cache.specs.Numbers.{AreOnce}
use Rattle.cb_cache.specs.Rows.{CostInSomeOrder}
use Rattle.cb_cache.proofs.Opened.{all_live}
use Rattle.cb_matrix.specs.Coded.{AddsCodedProblems}
use Rattle.cb_matrix.proofs.Costs.{part_cost, both_cost}
use Rattle.cb_matrix.proofs.Held.{added_both, all_added}
use Rattle.cb_matrix.proofs.Searching.{all_after, once_after, slice_after}
use Rattle.cb_matrix.proofs.searched.search_groups.Goals as goal

pub add_searched-requires-clause-live : goal.add_searched-requires-clause-live
add_searched-requires-clause-live g c =
    all_live c.args.graph.now (subst IsWhole c.topology.ensures c.node_capacity-capacity.ensures.whole) c.args.nodes.now c.requires

pub add_searched-requires-clause-sound : goal.add_searched-requires-clause-sound
add_searched-requires-clause-sound g c = subst (λ width. FitsTogether width c.in_ok-grouping.grouping) c.len.ensures c.in_ok-grouping.ensures.sound

pub add_rest-requires-clause-live : goal.add_rest-requires-clause-live
add_rest-requires-clause-live g c =
    let ids = c.args.nodes.now in
    let done = c.in_ok-done.done in
    let left : List NodeId = take (length ids - done) (drop done ids) in
    let live = all_live c.args.graph.now (subst IsWhole c.topology.ensures c.node_capacity-capacity.ensures.whole) ids c.requires in
    subst (λ (n : Numbered). All (IsLiveNode n) left) (sym c.in_ok-done.ensures.same)
    (subst (λ (xs : List NodeId). All (IsLiveNode c.args.graph.now) xs) (sym (slice_after ids done)) (all_after (IsLiveNode c.args.graph.now) ids done live))

pub add_rest-requires-clause-once : goal.add_rest-requires-clause-once
add_rest-requires-clause-once g c =
    let ids = c.args.nodes.now in
    subst AreOnce (sym (slice_after ids c.in_ok-done.done)) (once_after ids c.in_ok-done.done c.requires.once)

pub add_rest-requires-clause-sound : goal.add_rest-requires-clause-sound
add_rest-requires-clause-sound g c = c.in_ok-done.ensures.sound

pub returns-in_err-done-clause-cost : goal.returns-in_err-done-clause-cost
returns-in_err-done-clause-cost g c = λ cost is.
    let whole = subst IsWhole c.topology.ensures c.node_capacity-capacity.ensures.whole in
    let part = c.add_searched.ensures.part in
    part_cost c.args.graph.now whole cost is c.args.nodes.now c.requires part.0 c.args.steps.now c.add_searched.new.steps part.1

pub returns-in_err-add_rest-clause-cost : goal.returns-in_err-add_rest-clause-cost
returns-in_err-add_rest-clause-cost g c = λ cost is.
    let n = c.args.graph.now in
    let ids = c.args.nodes.now in
    let done = c.in_ok-done.done in
    let left : List NodeId = take (length ids - done) (drop done ids) in
    let whole = subst IsWhole c.topology.ensures c.node_capacity-capacity.ensures.whole in
    let within = c.in_ok-done.ensures.cost in
    elim c.add_rest.ensures.cost [
      | inl same ↦ (let few = part_cost n whole cost is ids c.requires done c.args.steps.now c.add_searched.new.steps within in omega (arith, same))
      | inr ordered ↦
          both_cost n whole cost is ids c.requires done c.args.steps.now c.add_searched.new.steps c.add_rest.new.steps within
          (subst (λ (xs : List NodeId). CostInSomeOrder n xs c.add_searched.new.steps c.add_rest.new.steps) (slice_after ids done)
          (subst (λ (m : Numbered). CostInSomeOrder m left c.add_searched.new.steps c.add_rest.new.steps) c.in_ok-done.ensures.same ordered))
    ]

pub returns-clause-groups : goal.returns-clause-groups
returns-clause-groups g c =
    let n = c.args.graph.now in
    let ids = c.args.nodes.now in
    let columns = c.args.columns.now in
    let done = c.in_ok-done.done in
    let left : List NodeId = take (length ids - done) (drop done ids) in
    let quiet = c.in_ok-grouping.grouping in
    let made = c.add_rest.new.grouping in
    let sound = subst (λ width. FitsTogether width quiet) c.len.ensures c.in_ok-grouping.ensures.sound in
    let alone : groups_in quiet ≡ group (zeros (length columns)) [] ∷ [] = c.in_ok-grouping.ensures.quiet ∙ ap (λ width. group (zeros width) [] ∷ []) c.len.ensures in
    let rest = subst (λ (xs : List NodeId). AddsCodedProblems n columns xs c.add_searched.new.grouping made) (slice_after ids done)
    (subst (λ (m : Numbered). AddsCodedProblems m columns left c.add_searched.new.grouping made) c.in_ok-done.ensures.same c.in_ok-add_rest.ensures.adds) in
    let added = subst (λ (xs : List NodeId). AddsCodedProblems n columns xs quiet made) (take-append-drop done ids)
    (added_both n columns (take done ids) (drop done ids) quiet c.add_searched.new.grouping made c.in_ok-done.ensures.adds rest) in
    all_added n columns ids quiet made sound alone c.in_ok-grouping.ensures.none added

pub returns-clause-cost : goal.returns-clause-cost
returns-clause-cost g c = λ cost is.
    let n = c.args.graph.now in
    let ids = c.args.nodes.now in
    let done = c.in_ok-done.done in
    let left : List NodeId = take (length ids - done) (drop done ids) in
    let whole = subst IsWhole c.topology.ensures c.node_capacity-capacity.ensures.whole in
    let within = c.in_ok-done.ensures.cost in
    elim c.add_rest.ensures.cost [
      | inl same ↦ (let few = part_cost n whole cost is ids c.requires done c.args.steps.now c.add_searched.new.steps within in omega (arith, same))
      | inr ordered ↦
          both_cost n whole cost is ids c.requires done c.args.steps.now c.add_searched.new.steps c.add_rest.new.steps within
          (subst (λ (xs : List NodeId). CostInSomeOrder n xs c.add_searched.new.steps c.add_rest.new.steps) (slice_after ids done)
          (subst (λ (m : Numbered). CostInSomeOrder m left c.add_searched.new.steps c.add_rest.new.steps) c.in_ok-done.ensures.same ordered))
    ]

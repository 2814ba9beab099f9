use Rattle.std.proofs.Common.{◌<◌, ◌+◌, length, slice_index_or, refl, sym, subst, ◌∙◌, arith}
use Rattle.cb_nodes.specs.declared.id.NodeId.{NodeId}
use Rattle.cb_breadth.specs.Trees.{CountsReached}
use Rattle.cb_codes.specs.Grouped.{problem_of, FitsTogether}
use Rattle.cb_graph.specs.Edges.{EdgeAt}
use Rattle.cb_topo.specs.Numbered.{Numbered, IsLiveNode, IsNodeNamed, IsWhole}
use Rattle.cb_matrix.specs.Coded.{AddsOne, IsCodeFrom, IsProblemAt}
use Rattle.cb_matrix.specs.Searched.{IsSearcher}
use Rattle.cb_matrix.proofs.Costs.{none_cost, one_cost}
use Rattle.cb_matrix.proofs.Held.{none_added, one_added}
use Rattle.cb_matrix.proofs.searched.add_searched.Goals as goal

pub returns-in_err-searcher-clause-part : goal.returns-in_err-searcher-clause-part
returns-in_err-searcher-clause-part g c = (0, none_cost c.args.graph.now c.args.steps.now)

pub loop-done-init : goal.loop-done-init
loop-done-init g c = record {
  same = refl;
  within = omega arith;
  searcher = subst (λ (n : Numbered). IsSearcher n c.in_ok-searcher.searcher) c.topology.ensures c.in_ok-searcher.ensures.new;
  adds = none_added c.args.graph.now c.args.columns.now c.args.grouping.now;
  sound = c.requires.sound;
  cost = none_cost c.args.graph.now c.args.steps.now;
}

pub copy_name-requires : goal.copy_name-requires
copy_name-requires g c =
    let zero : NodeId = record { 0 = 0 } in
    let here = c.topology-in-loop-done.ensures ∙ c.loop-done.invariant.same in
    subst (λ (n : Numbered). IsLiveNode n (slice_index_or c.args.nodes.now c.loop-done.done zero)) (sym here) (c.requires.live c.loop-done.done zero c.loop-done-test.true)

pub code_of-requires-clause-live : goal.code_of-requires-clause-live
code_of-requires-clause-live g c =
    let zero : NodeId = record { 0 = 0 } in
    subst (λ (n : Numbered). IsLiveNode n (slice_index_or c.args.nodes.now c.loop-done.done zero)) (sym c.loop-done.invariant.same) (c.requires.live c.loop-done.done zero c.loop-done-test.true)

pub code_of-requires-clause-searcher : goal.code_of-requires-clause-searcher
code_of-requires-clause-searcher g c = subst (λ (n : Numbered). IsSearcher n c.loop-done.searcher) (sym c.loop-done.invariant.same) c.loop-done.invariant.searcher

pub add-requires : goal.add-requires
add-requires g c = record { sound = subst (λ width. FitsTogether width c.loop-done.grouping) (sym c.in_ok-code.ensures.code.width) c.loop-done.invariant.sound }

pub loop-done-preserved : goal.loop-done-preserved
loop-done-preserved g c =
    let zero : NodeId = record { 0 = 0 } in
    let n = c.args.graph.now in
    let ids = c.args.nodes.now in
    let columns = c.args.columns.now in
    let i = c.loop-done.done in
    let id = slice_index_or ids i zero in
    let low : i < length ids = c.loop-done-test.true in
    let kept = c.loop-done.invariant in
    let here = c.topology-in-loop-done.ensures ∙ kept.same in
    let named = subst (λ (m : Numbered). IsNodeNamed m id c.in_ok-name.name) here c.in_ok-name.ensures in
    let code = subst (λ (m : Numbered). IsCodeFrom m columns id c.in_ok-code.code) kept.same c.in_ok-code.ensures.code in
    let p = problem_of c.in_ok-name.name c.in_ok-code.code in
    let is : IsProblemAt n columns id p = record { named = named; coded = code } in
    let adds : AddsOne p c.loop-done.grouping c.add.new.self = record { sound = c.in_ok-add.ensures.sound; added = c.in_ok-add.ensures.added; holds = c.in_ok-add.ensures.holds } in
    let reached = subst (λ (m : Numbered). CountsReached (EdgeAt m) id.0 (length m.nodes) c.loop-done.steps c.code_of.new.steps) kept.same c.code_of.ensures.reached in
    record {
      same = c.code_of.ensures.same ∙ kept.same;
      within = omega (arith, low);
      searcher = subst (λ (m : Numbered). IsSearcher m c.code_of.new.self) kept.same c.in_ok-code.ensures.searcher;
      adds = one_added n columns ids i zero p c.args.grouping.now c.loop-done.grouping c.add.new.self low is adds kept.adds;
      sound = subst (λ width. FitsTogether width c.add.new.self) code.width c.in_ok-add.ensures.sound;
      cost = one_cost n (subst IsWhole c.topology.ensures c.in_ok-searcher.ensures.whole) ids i zero c.args.steps.now c.loop-done.steps c.code_of.new.steps low (c.requires.live i zero low) kept.cost reached;
    }

pub returns-in_err-name-clause-part : goal.returns-in_err-name-clause-part
returns-in_err-name-clause-part g c = (c.loop-done.done, c.loop-done.invariant.cost)

pub returns-in_err-code-clause-part : goal.returns-in_err-code-clause-part
returns-in_err-code-clause-part g c =
    let zero : NodeId = record { 0 = 0 } in
    let ids = c.args.nodes.now in
    let i = c.loop-done.done in
    let id = slice_index_or ids i zero in
    let low : i < length ids = c.loop-done-test.true in
    let kept = c.loop-done.invariant in
    let reached = subst (λ (m : Numbered). CountsReached (EdgeAt m) id.0 (length m.nodes) c.loop-done.steps c.code_of.new.steps) kept.same c.code_of.ensures.reached in
    (i + 1, one_cost c.args.graph.now (subst IsWhole c.topology.ensures c.in_ok-searcher.ensures.whole) ids i zero c.args.steps.now c.loop-done.steps c.code_of.new.steps low (c.requires.live i zero low) kept.cost reached)

pub returns-in_err-add-clause-part : goal.returns-in_err-add-clause-part
returns-in_err-add-clause-part g c =
    let zero : NodeId = record { 0 = 0 } in
    let ids = c.args.nodes.now in
    let i = c.loop-done.done in
    let id = slice_index_or ids i zero in
    let low : i < length ids = c.loop-done-test.true in
    let kept = c.loop-done.invariant in
    let reached = subst (λ (m : Numbered). CountsReached (EdgeAt m) id.0 (length m.nodes) c.loop-done.steps c.code_of.new.steps) kept.same c.code_of.ensures.reached in
    (i + 1, one_cost c.args.graph.now (subst IsWhole c.topology.ensures c.in_ok-searcher.ensures.whole) ids i zero c.args.steps.now c.loop-done.steps c.code_of.new.steps low (c.requires.live i zero low) kept.cost reached)

pub returns-clause-part : goal.returns-clause-part
returns-clause-part g c = (c.loop-done.done, c.loop-done.invariant.cost)

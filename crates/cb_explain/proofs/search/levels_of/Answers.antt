use Rattle.std.proofs.Common.{List, length, sym, subst, ◌∙◌, arith}
use Rattle.std.proofs.lemmas.Option.{slice_get_within}
use Rattle.cb_model.specs.WellTyped.{WellTyped}
use Rattle.cb_network.specs.Sound.{Sound}
use Rattle.cb_breadth.specs.declared.visit.LevelVisit.{LevelVisit}
use Rattle.cb_breadth.proofs.Beginning.{begun}
use Rattle.cb_graph.specs.Edges.{EdgeAt}
use Rattle.cb_topo.specs.Numbered.{Numbered, topology_of, IsWhole}
use Rattle.cb_span.specs.Orders.{IsAtRank, IsOrderOf}
use Rattle.cb_span.proofs.Zips.{ok_weaker}
use Rattle.cb_explain.specs.Made.{AreLevelsFor}
use Rattle.cb_explain.specs.Levelled.{AreLevelsAt, AreRanksBelow}
use Rattle.cb_explain.proofs.Explaining.{counts_caused}
use Rattle.cb_explain.proofs.Levelling.{ranks_below, live_rank, levels_made}
use Rattle.cb_explain.proofs.search.levels_of.Goals as goal

pub rank_of-root-requires : goal.rank_of-root-requires
rank_of-root-requires g c =
    let ord = subst (λ (m : Numbered). IsOrderOf m c.in_ok-order.order) c.topology.ensures c.in_ok-order.ensures.order in
    live_rank c.args.graph.now c.in_ok-order.order ord c.args.problem (c.requires.name, c.requires.named)

pub level_tree-requires-clause-order : goal.level_tree-requires-clause-order
level_tree-requires-clause-order g c =
    let ord = subst (λ (m : Numbered). IsOrderOf m c.in_ok-order.order) c.topology.ensures c.in_ok-order.ensures.order in
    ord.is

pub level_tree-requires-clause-few : goal.level_tree-requires-clause-few
level_tree-requires-clause-few g c =
    let ord = subst (λ (m : Numbered). IsOrderOf m c.in_ok-order.order) c.topology.ensures c.in_ok-order.ensures.order in
    let low = ord.few in
    omega arith

pub level_tree-requires-clause-root : goal.level_tree-requires-clause-root
level_tree-requires-clause-root g c = slice_get_within c.in_ok-order.order.nodes.items c.rank_of-root.result c.args.problem.0 c.rank_of-root.ensures.node_is

pub level_tree-requires-clause-known : goal.level_tree-requires-clause-known
level_tree-requires-clause-known g c = begun (EdgeAt c.args.graph.now) c.in_ok-order.order c.in_ok-searches.searches c.in_ok-searches.ensures

pub levels_by-requires-clause-order : goal.levels_by-requires-clause-order
levels_by-requires-clause-order g c =
    subst (λ (m : Numbered). IsOrderOf m c.in_ok-order.order) (c.topology.ensures ∙ sym (c.topology-2.ensures ∙ c.level_tree.ensures.same)) c.in_ok-order.ensures.order

pub levels_by-requires-clause-ranks : goal.levels_by-requires-clause-ranks
levels_by-requires-clause-ranks g c =
    let nodes = c.in_ok-order.order.nodes.items in
    let low = slice_get_within nodes c.rank_of-root.result c.args.problem.0 c.rank_of-root.ensures.node_is in
    subst (λ (vs : List LevelVisit). AreRanksBelow (length nodes) vs) (sym c.deref.ensures.value)
    (ranks_below (EdgeAt c.args.graph.now) nodes c.rank_of-root.result c.in_ok-visits.visits.items c.in_ok-visits.ensures.tree low)

pub returns-clause-made : goal.returns-clause-made
returns-clause-made g c =
    let n = c.args.graph.now in
    let order = c.in_ok-order.order in
    let ord = subst (λ (m : Numbered). IsOrderOf m order) c.topology.ensures c.in_ok-order.ensures.order in
    let whole = subst IsWhole c.topology.ensures c.in_ok-order.ensures.whole in
    let sound = subst (λ (m : Numbered). Sound (topology_of m)) c.topology.ensures c.in_ok-order.ensures.sound in
    let typed = subst (λ (m : Numbered). WellTyped (topology_of m).model) c.topology.ensures c.in_ok-order.ensures.typed in
    let visits = c.in_ok-visits.visits.items in
    ok_weaker (AreLevelsFor (IsAtRank c.topology-2.result.now order) c.deref.result.now) (AreLevelsAt n c.args.problem) c.levels_by.result
    (λ levels are.
    let moved = subst (λ (m : Numbered). AreLevelsFor (IsAtRank m order) c.deref.result.now levels) (c.topology-2.ensures ∙ c.level_tree.ensures.same) are in
    let of_visits = subst (λ (vs : List LevelVisit). AreLevelsFor (IsAtRank n order) vs levels) c.deref.ensures.value moved in
    levels_made n order ord whole c.args.problem c.rank_of-root.result visits levels sound typed c.requires c.rank_of-root.ensures c.in_ok-visits.ensures.tree of_visits)
    c.levels_by.ensures

pub returns-clause-asked : goal.returns-clause-asked
returns-clause-asked g c =
    let order = c.in_ok-order.order in
    let ord = subst (λ (m : Numbered). IsOrderOf m order) c.topology.ensures c.in_ok-order.ensures.order in
    let whole = subst IsWhole c.topology.ensures c.in_ok-order.ensures.whole in
    counts_caused c.args.graph.now order ord whole c.args.problem c.rank_of-root.result c.rank_of-root.ensures c.args.steps.now c.level_tree.new.steps
    c.level_tree.ensures.asked

pub returns-in_err-visits-clause-asked : goal.returns-in_err-visits-clause-asked
returns-in_err-visits-clause-asked g c =
    let order = c.in_ok-order.order in
    let ord = subst (λ (m : Numbered). IsOrderOf m order) c.topology.ensures c.in_ok-order.ensures.order in
    let whole = subst IsWhole c.topology.ensures c.in_ok-order.ensures.whole in
    counts_caused c.args.graph.now order ord whole c.args.problem c.rank_of-root.result c.rank_of-root.ensures c.args.steps.now c.level_tree.new.steps
    c.level_tree.ensures.asked

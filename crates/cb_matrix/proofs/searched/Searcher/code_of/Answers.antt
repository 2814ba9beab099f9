use Rattle.std.proofs.Common.{◌≤◌, ◌<◌, List, length, ap, sym, subst, ◌∙◌, arith}
use Rattle.std.specs.List.{All}
use Rattle.std.proofs.lemmas.List.FromFn.{length-range_with_len}
use Rattle.std.proofs.lemmas.Result.{IfOk-weaker}
use Rattle.cb_breadth.specs.declared.visit.Visit.{Visit}
use Rattle.cb_breadth.proofs.ByNumber.{reached_by_number}
use Rattle.cb_breadth.specs.Trees.{HasNode}
use Rattle.cb_network.specs.Sound.{node_limit}
use Rattle.cb_topo.specs.Numbered.{Numbered}
use Rattle.cb_topo.proofs.Positions.{live_below}
use Rattle.cb_graph.specs.Edges.{EdgeAt}
use Rattle.cb_matrix.specs.Codes.{IsCodeWhere}
use Rattle.cb_matrix.proofs.Searching.{edge_below, in_any_case, is_order, tree_below, visited_code}
use Rattle.cb_matrix.proofs.searched.Searcher.code_of.Goals as goal

pub tree-requires-clause-order : goal.tree-requires-clause-order
tree-requires-clause-order g c = is_order c.args.graph.now c.args.columns.now c.args.node c.args.self.now.order c.requires.searcher.order c.requires.live

pub tree-requires-clause-few : goal.tree-requires-clause-few
tree-requires-clause-few g c =
    let n = c.args.graph.now in
    let few = subst (λ (m : Numbered). length m.nodes ≤ node_limit) c.topology.ensures (subst (λ k. k ≤ node_limit) c.node_capacity-capacity.ensures.value c.node_capacity-capacity.ensures.few) in
    let long = ap length c.requires.searcher.order.nodes ∙ length-range_with_len 0 (length n.nodes) in
    omega arith

pub tree-requires-clause-root : goal.tree-requires-clause-root
tree-requires-clause-root g c =
    let n = c.args.graph.now in
    let low = live_below n c.args.node c.requires.live in
    let long = ap length c.requires.searcher.order.nodes ∙ length-range_with_len 0 (length n.nodes) in
    omega arith

pub tree-requires-clause-known : goal.tree-requires-clause-known
tree-requires-clause-known g c = c.requires.searcher.known

pub code_of_visits-requires : goal.code_of_visits-requires
code_of_visits-requires g c =
    let n = c.args.graph.now in
    let nodes = c.args.self.now.order.nodes.items in
    let live = live_below n c.args.node c.requires.live in
    let long = ap length c.requires.searcher.order.nodes ∙ length-range_with_len 0 (length n.nodes) in
    let low : c.args.node.0 < length nodes = omega arith in
    subst (All (λ (v : Visit). v.node < length nodes)) (sym c.deref.ensures.value)
    (tree_below (EdgeAt c.args.graph.now) nodes c.args.node.0 c.in_ok-visits.visits.items c.in_ok-visits.ensures.tree low)

pub returns-clause-searcher : goal.returns-clause-searcher
returns-clause-searcher g c = in_any_case c.code_of_visits.result _ (record { order = c.requires.searcher.order; known = c.in_ok-visits.ensures.known })

pub returns-clause-code : goal.returns-clause-code
returns-clause-code g c =
    let n = c.args.graph.now in
    let order = c.args.self.now.order in
    let columns = c.args.columns.now in
    let visits = c.in_ok-visits.visits.items in
    IfOk-weaker c.code_of_visits.result _ _ (λ code coded. visited_code n columns c.args.node order c.requires.searcher.order c.requires.live visits c.in_ok-visits.ensures.tree code
    (subst (λ (vs : List Visit). IsCodeWhere columns (HasNode order.nodes.items vs) code) c.deref.ensures.value coded)) c.code_of_visits.ensures

pub returns-in_err-visits-clause-reached : goal.returns-in_err-visits-clause-reached
returns-in_err-visits-clause-reached g c =
    let n = c.args.graph.now in
    reached_by_number (EdgeAt n) (length n.nodes) c.args.self.now.order c.requires.searcher.order (edge_below n) c.args.node.0 c.args.steps.now c.tree.new.steps c.tree.ensures.reached

pub returns-clause-reached : goal.returns-clause-reached
returns-clause-reached g c =
    let n = c.args.graph.now in
    reached_by_number (EdgeAt n) (length n.nodes) c.args.self.now.order c.requires.searcher.order (edge_below n) c.args.node.0 c.args.steps.now c.tree.new.steps c.tree.ensures.reached

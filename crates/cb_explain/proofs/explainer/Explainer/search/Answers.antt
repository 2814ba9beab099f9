use Rattle.std.proofs.Common.{length, sym, ap, subst, arith}
use Rattle.std.proofs.lemmas.Option.{slice_get_within}
use Rattle.cb_graph.specs.Edges.{EdgeAt}
use Rattle.cb_explain.specs.Levelled.{AreRanksBelow}
use Rattle.cb_explain.proofs.Levelling.{ranks_below, live_rank}
use Rattle.cb_explain.proofs.Explaining.{counts_caused}
use Rattle.cb_explain.proofs.Ending.{few_visits}
use Rattle.cb_explain.proofs.explainer.Explainer.search.Goals as goal

pub rank_of-root-requires : goal.rank_of-root-requires
rank_of-root-requires g c =
    live_rank c.args.graph.now c.args.self.now.order c.requires.explainer.order c.args.problem (c.requires.problem.name, c.requires.problem.named)

pub level_tree-requires-clause-few : goal.level_tree-requires-clause-few
level_tree-requires-clause-few g c = let low = c.requires.explainer.order.few in omega arith

pub level_tree-requires-clause-root : goal.level_tree-requires-clause-root
level_tree-requires-clause-root g c = slice_get_within c.args.self.now.order.nodes.items c.rank_of-root.result c.args.problem.0 c.rank_of-root.ensures.node_is

pub set_positions-requires-clause-below : goal.set_positions-requires-clause-below
set_positions-requires-clause-below g c =
    let nodes = c.args.self.now.order.nodes.items in
    let low = slice_get_within nodes c.rank_of-root.result c.args.problem.0 c.rank_of-root.ensures.node_is in
    let below = ranks_below (EdgeAt c.args.graph.now) nodes c.rank_of-root.result c.in_ok-visits.visits.items c.in_ok-visits.ensures.tree low in
    let sized = subst (λ k. AreRanksBelow k c.in_ok-visits.visits.items) (sym c.requires.explainer.size) below in
    subst (AreRanksBelow (length c.args.self.now.positions.items)) (sym c.deref.ensures.value) sized

pub returns-clause-asked : goal.returns-clause-asked
returns-clause-asked g c =
    counts_caused c.args.graph.now c.args.self.now.order c.requires.explainer.order c.requires.explainer.whole c.args.problem c.rank_of-root.result c.rank_of-root.ensures
    c.args.steps.now c.level_tree.new.steps c.level_tree.ensures.asked

pub returns-in_err-visits-clause-asked : goal.returns-in_err-visits-clause-asked
returns-in_err-visits-clause-asked g c =
    counts_caused c.args.graph.now c.args.self.now.order c.requires.explainer.order c.requires.explainer.whole c.args.problem c.rank_of-root.result c.rank_of-root.ensures
    c.args.steps.now c.level_tree.new.steps c.level_tree.ensures.asked

pub set_positions-requires-clause-few : goal.set_positions-requires-clause-few
set_positions-requires-clause-few g c =
    let nodes = c.args.self.now.order.nodes.items in
    let visits = c.in_ok-visits.visits.items in
    let tree = c.in_ok-visits.ensures.tree in
    let low = slice_get_within nodes c.rank_of-root.result c.args.problem.0 c.rank_of-root.ensures.node_is in
    let below = ranks_below (EdgeAt c.args.graph.now) nodes c.rank_of-root.result visits tree low in
    let few = few_visits visits (length nodes) tree.once below in
    let all = c.requires.explainer.order.few in
    let here = ap length c.deref.ensures.value in
    omega arith

use Rattle.std.proofs.Common.{List, [], ◌∷◌, ◌++◌, ◌+◌, ℕ, take, refl, sym, subst, arith}
use Rattle.std.proofs.lemmas.List.{take_all}
use Rattle.cb_model.specs.declared.node.NodeName.{NodeName}
use Rattle.cb_model.proofs.Numbers.{take_more, all_at}
use Rattle.cb_network.specs.Nodes.{IsProblem}
use Rattle.cb_topo.specs.Numbered.{Numbered, topology_of}
use Rattle.cb_explain.specs.Explained.{HasChainsTo}
use Rattle.cb_chain_commands.specs.Explaining.{HaveMemberChains, CountsFrom}
use Rattle.cb_chain_commands.proofs.Counting.{counts_same, counts_next, counts_some}
use Rattle.cb_chain_commands.proofs.Adding.{no_members, members_more, members_still, nothing_searched, is_of_itself, searched_more}
use Rattle.cb_chain_commands.proofs.explanation.Explanation.trees_of.Goals as goal

pub returns-in_err-trees-clause-cost : goal.returns-in_err-trees-clause-cost
returns-in_err-trees-clause-cost g c = counts_same (topology_of c.args.self.now.graph) c.args.members.now c.args.steps.now c.args.steps.now refl

pub loop-at-init : goal.loop-at-init
loop-at-init g c =
    let now = c.args.self.now in (
      nothing_searched now _ c.requires.network (λ columns.
          subst (λ (ts : List (List (List ℕ))). HaveMemberChains now.graph now.explainer columns [] ts) (sym c.in_ok-trees.ensures.items)
          (no_members now.graph now.explainer columns)),
      counts_same (topology_of now.graph) [] c.args.steps.now c.args.steps.now refl,
    )

pub tree_of-requires-clause-network : goal.tree_of-requires-clause-network
tree_of-requires-clause-network g c = is_of_itself c.args.self.now c.loop-at.self _ c.loop-at.invariant.0

pub tree_of-requires-clause-problem : goal.tree_of-requires-clause-problem
tree_of-requires-clause-problem g c =
    subst (λ (n : Numbered). IsProblem (topology_of n) c.at.result.now) (sym c.loop-at.invariant.0.same.graph)
    (all_at (IsProblem (topology_of c.args.self.now.graph)) c.args.members.now c.loop-at.at c.at.result.now c.at.ensures c.requires.problems)

pub loop-at-preserved : goal.loop-at-preserved
loop-at-preserved g c =
    let old = c.args.self.now in
    let now = c.loop-at.self in
    let new = c.tree_of.new.self in
    let n = old.graph in
    let members = c.args.members.now in
    let i = c.loop-at.at in
    let member = c.at.result.now in
    let trees = c.loop-at.trees.items in
    let tree = c.in_ok-tree.tree in
    let before = c.loop-at.invariant.0 in
    let cost = subst (λ (m : Numbered). CountsFrom (topology_of m) (member ∷ []) c.loop-at.steps c.tree_of.new.steps) before.same.graph c.tree_of.ensures.cost in (
      searched_more old now _ before new _ c.in_ok-tree.ensures.network c.in_ok-tree.ensures.same (λ columns named have.
          let here : HasChainsTo n new.explainer member columns tree =
          subst (λ (m : Numbered). HasChainsTo m new.explainer member columns tree) before.same.graph (c.in_ok-tree.ensures.chains columns named)
          in
          let still = members_still n now.explainer new.explainer c.in_ok-tree.ensures.same.nodes columns (take i members) trees have in
          subst (λ (ts : List (List (List ℕ))). HaveMemberChains n new.explainer columns (take (i + 1) members) ts) (sym c.in_ok-push.ensures.items)
          (subst (λ (ms : List NodeName). HaveMemberChains n new.explainer columns ms (trees ++ tree ∷ [])) (sym (take_more members i member c.at.ensures))
          (members_more n new.explainer columns (take i members) member trees tree still here))),
      counts_next (topology_of n) members i member c.args.steps.now c.loop-at.steps c.tree_of.new.steps c.at.ensures c.loop-at.invariant.1 cost,
    )

pub returns-in_err-tree-clause-cost : goal.returns-in_err-tree-clause-cost
returns-in_err-tree-clause-cost g c =
    let t = topology_of c.args.self.now.graph in
    let members = c.args.members.now in
    let i = c.loop-at.at in
    let member = c.at.result.now in
    let cost = subst (λ (m : Numbered). CountsFrom (topology_of m) (member ∷ []) c.loop-at.steps c.tree_of.new.steps) c.loop-at.invariant.0.same.graph
    c.tree_of.ensures.cost
    in
    counts_some t members (i + 1) c.args.steps.now c.tree_of.new.steps
    (counts_next t members i member c.args.steps.now c.loop-at.steps c.tree_of.new.steps c.at.ensures c.loop-at.invariant.1 cost)

pub returns-in_err-push-clause-cost : goal.returns-in_err-push-clause-cost
returns-in_err-push-clause-cost g c =
    let t = topology_of c.args.self.now.graph in
    let members = c.args.members.now in
    let i = c.loop-at.at in
    let member = c.at.result.now in
    let cost = subst (λ (m : Numbered). CountsFrom (topology_of m) (member ∷ []) c.loop-at.steps c.tree_of.new.steps) c.loop-at.invariant.0.same.graph
    c.tree_of.ensures.cost
    in
    counts_some t members (i + 1) c.args.steps.now c.tree_of.new.steps
    (counts_next t members i member c.args.steps.now c.loop-at.steps c.tree_of.new.steps c.at.ensures c.loop-at.invariant.1 cost)

pub returns-clause-network : goal.returns-clause-network
returns-clause-network g c = c.loop-at.invariant.0.network

pub returns-clause-same : goal.returns-clause-same
returns-clause-same g c = c.loop-at.invariant.0.same

pub returns-clause-chains : goal.returns-clause-chains
returns-clause-chains g c = λ columns named.
    let past = c.loop-at-test.false in
    let end = c.len-at-end.ensures in
    let n = c.args.self.now.graph in
    let e = c.loop-at.self.explainer in
    subst (λ (ts : List (List (List ℕ))). HaveMemberChains n e columns c.args.members.now ts) (sym c.of.ensures)
    (subst (λ (ms : List NodeName). HaveMemberChains n e columns ms c.loop-at.trees.items) (take_all c.loop-at.at c.args.members.now (omega (arith, past, end)))
    (c.loop-at.invariant.0.chains columns named))

pub returns-clause-cost : goal.returns-clause-cost
returns-clause-cost g c =
    counts_some (topology_of c.args.self.now.graph) c.args.members.now c.loop-at.at c.args.steps.now c.loop-at.steps c.loop-at.invariant.1

use Rattle.std.proofs.Common.{◌≡◌, ◌≤◌, ◌==◌, true, List, [], ◌∷◌, length, inr, refl, sym, subst, ◌∙◌, arith}
use Rattle.std.specs.List.{All, Contains}
use Rattle.std.proofs.lemmas.Bool.{eqb-true}
use Rattle.std.proofs.lemmas.Result.{on_ok_weaker}
use Rattle.cb_network.specs.Sound.{node_limit}
use Rattle.cb_nodes.specs.declared.id.NodeId.{NodeId}
use Rattle.cb_topo.specs.Numbered.{Numbered, IsLiveNode}
use Rattle.cb_cache.specs.Rows.{HaveRows}
use Rattle.cb_matrix.specs.Coded.{AddsCodedProblems}
use Rattle.cb_matrix.proofs.Held.{none_added}
use Rattle.cb_matrix.proofs.searched.add_rest.Goals as goal

nothing : (xs : List NodeId) → (length xs == 0) ≡ true → xs ≡ []
nothing [] is = refl
nothing (x ∷ xs) is = absurd (let none = eqb-true (length (x ∷ xs)) 0 is in omega arith)

pub returns-then-is_empty-clause-adds : goal.returns-then-is_empty-clause-adds
returns-then-is_empty-clause-adds g c =
    subst (λ (xs : List NodeId). AddsCodedProblems c.args.graph.now c.args.columns.now xs c.args.grouping.now c.args.grouping.now)
    (sym (nothing c.args.nodes.now (sym c.is_empty.ensures ∙ c.if-is_empty.true))) (none_added c.args.graph.now c.args.columns.now c.args.grouping.now)

pub add_by_rows-requires-clause-few : goal.add_by_rows-requires-clause-few
add_by_rows-requires-clause-few g c =
    let capacity = c.node_capacity-capacity.ensures in
    let here = c.topology-2.ensures ∙ c.of.ensures.same ∙ sym c.topology.ensures in
    subst (λ (n : Numbered). length n.nodes ≤ node_limit) (sym here) (subst (λ k. k ≤ node_limit) capacity.value capacity.few)

pub add_by_rows-requires-clause-rows : goal.add_by_rows-requires-clause-rows
add_by_rows-requires-clause-rows g c =
    subst (λ (n : Numbered). HaveRows n (Contains c.args.nodes.now) c.in_ok-rows.rows) (sym (c.topology-2.ensures ∙ c.of.ensures.same)) c.in_ok-rows.ensures.rows

pub add_by_rows-requires-clause-live : goal.add_by_rows-requires-clause-live
add_by_rows-requires-clause-live g c = subst (λ (n : Numbered). All (IsLiveNode n) c.args.nodes.now) (sym (c.topology-2.ensures ∙ c.of.ensures.same)) c.requires.live

pub returns-clause-adds : goal.returns-clause-adds
returns-clause-adds g c =
    on_ok_weaker c.add_by_rows.result (subst (λ (n : Numbered). AddsCodedProblems n c.args.columns.now c.args.nodes.now c.args.grouping.now c.add_by_rows.new.grouping) (c.topology-2.ensures ∙ c.of.ensures.same))
    c.add_by_rows.ensures

pub returns-clause-cost : goal.returns-clause-cost
returns-clause-cost g c = inr c.in_ok-rows.ensures.cost

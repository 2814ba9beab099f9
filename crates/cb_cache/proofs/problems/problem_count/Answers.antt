use Rattle.std.proofs.Common.{◌<◌, [], ◌∷◌, ◌++◌, refl, sym, subst, ◌∙◌, arith}
use Rattle.std.proofs.lemmas.Bool.{false≢true}
use Rattle.std.proofs.lemmas.List.{length_push}
use Rattle.cb_network.specs.Nodes.{IsProblem, IsCount}
use Rattle.cb_nodes.specs.declared.id.NodeId.{NodeId}
use Rattle.cb_topo.specs.Numbered.{topology_of, IsLiveNode}
use Rattle.cb_cache.proofs.Gathered.{below_none, below_past, below_more, count_of_all, few_of_all}
use Rattle.cb_cache.proofs.problems.problem_count.Goals as goal
use Rattle.cb_cache.proofs.problems.problem_count.Goals.{then-is_problem_number, else-is_problem_number}

pub loop-place-init : goal.loop-place-init
loop-place-init c = ([], below_none c.args.topology.now, refl)

pub loop-place-preserved : goal.loop-place-preserved
loop-place-preserved c =
    let n = c.args.topology.now in
    let k = c.loop-place.place in
    let id : NodeId = record { 0 = k } in
    let (ids, below, count) = c.loop-place.invariant in
    elim c.if-is_problem_number.branch [
      | then-is_problem_number w ↦
          let more = below_more n k ids below id refl (c.is_problem_number.ensures.0 w.if-is_problem_number.true) in
          let long = length_push ids id in
          let now = w.count-is in
          (ids ++ id ∷ [], more, omega arith)
      | else-is_problem_number w ↦
          let past = below_past n k ids below id refl (λ problem. false≢true (sym w.if-is_problem_number.false ∙ c.is_problem_number.ensures.1 problem)) in
          (ids, past, w.count-is ∙ count)
    ]

pub returns-clause-count : goal.returns-clause-count
returns-clause-count c =
    let n = c.args.topology.now in
    let (ids, below, count) = c.loop-place.invariant in
    let above : (id : NodeId) → IsLiveNode n id → id.0 < c.loop-place.place = λ id live.
    let low = c.node_capacity-place-end.ensures.above id live in
    omega (arith, low, c.loop-place-test.false) in
    subst (IsCount (IsProblem (topology_of n))) (sym count) (count_of_all n c.node_capacity-place-end.ensures.whole c.loop-place.place ids below above)

pub returns-clause-few : goal.returns-clause-few
returns-clause-few c =
    let n = c.args.topology.now in
    let (ids, below, count) = c.loop-place.invariant in
    let above : (id : NodeId) → IsLiveNode n id → id.0 < c.loop-place.place = λ id live.
    let low = c.node_capacity-place-end.ensures.above id live in
    omega (arith, low, c.loop-place-test.false) in
    let few = few_of_all n c.node_capacity-place-end.ensures.whole c.loop-place.place ids below above c.node_capacity-place-end.ensures.sound in
    omega arith

use Rattle.std.proofs.Common.{◌≡◌, ◌+◌, ◌<◌, refl, sym, subst, ◌∙◌, arith}
use Rattle.std.specs.Prelude.{vec_capacity}
use Rattle.std.specs.Global.{Global}
use Rattle.std.specs.declared.vec.Vec.{Vec}
use Rattle.std.proofs.lemmas.Bool.{false≢true}
use Rattle.cb_nodes.specs.declared.id.NodeId.{NodeId}
use Rattle.cb_topo.specs.Numbered.{IsLiveNode}
use Rattle.cb_cache.proofs.Gathered.{AreBelow, below_none, below_past, below_more, all_gathered}
use Rattle.cb_cache.proofs.problems.push_problems.Goals as goal
use Rattle.cb_cache.proofs.problems.push_problems.Goals.{then-is_problem_number, else-is_problem_number}

pub loop-place-init : goal.loop-place-init
loop-place-init c = (subst (AreBelow c.args.topology.now 0) (sym c.requires.empty) (below_none c.args.topology.now), refl)

pub push_reserved-requires : goal.push_reserved-requires
push_reserved-requires c =
    let (below, capacity) = c.loop-place.invariant in
    let low = c.loop-place-test.true in
    let most = c.node_capacity-place-end.ensures.value in
    let few = below.few in
    let enough = c.requires.capacity in
    let long = c.loop-place.list.ok.0 in
    omega arith

pub loop-place-preserved : goal.loop-place-preserved
loop-place-preserved c =
    let n = c.args.topology.now in
    let k = c.loop-place.place in
    let id : NodeId = record { 0 = k } in
    let ids = c.loop-place.list.items in
    let (below, capacity) = c.loop-place.invariant in
    let After : Vec NodeId Global → Type 0 = λ list. AreBelow n (k + 1) list.items × (vec_capacity list ≡ vec_capacity c.args.list.now) in
    elim c.if-is_problem_number.branch [
      | then-is_problem_number w ↦
          let more = below_more n k ids below id refl (c.is_problem_number.ensures.0 w.if-is_problem_number.true) in
          subst After (sym w.list-is) (subst (AreBelow n (k + 1)) (sym w.push_reserved.ensures.items) more, w.push_reserved.ensures.capacity ∙ capacity)
      | else-is_problem_number w ↦
          let past = below_past n k ids below id refl (λ problem. false≢true (sym w.if-is_problem_number.false ∙ c.is_problem_number.ensures.1 problem)) in
          subst After (sym w.list-is) (past, capacity)
    ]

pub returns-clause-problems : goal.returns-clause-problems
returns-clause-problems c =
    let n = c.args.topology.now in
    let above : (id : NodeId) → IsLiveNode n id → id.0 < c.loop-place.place = λ id live.
    let low = c.node_capacity-place-end.ensures.above id live in
    omega (arith, low, c.loop-place-test.false) in
    all_gathered n c.node_capacity-place-end.ensures.whole c.loop-place.place c.loop-place.list.items c.loop-place.invariant.0 above c.node_capacity-place-end.ensures.sound

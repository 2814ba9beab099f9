use Rattle.std.proofs.Common.{◌+◌, ◌<◌, ◌≤◌, length, get_or, sym, subst, ◌∙◌, Option, arith}
use Rattle.std.proofs.lemmas.Bool.{false≢true}
use Rattle.std.proofs.lemmas.Option.{slice_get-get_or}
use Rattle.cb_model.specs.declared.node.NodeName.{NodeName}
use Rattle.cb_model.proofs.Numbers.{contains_at}
use Rattle.cb_topo.proofs.Positions.{live_below}
use Rattle.cb_graph.specs.Edges.{number}
use Rattle.cb_checker.specs.Missing.{IsLeastIfAny}
use Rattle.cb_checker.proofs.Closing.{IsUnlistedTo, none_unlisted, least_past, least_more, least_all}
use Rattle.cb_checker.proofs.closed.least_unlisted.Goals as goal
use Rattle.cb_checker.proofs.closed.least_unlisted.Goals.{then-not-get+in_ok-name, else-not-get}

pub loop-place-init : goal.loop-place-init
loop-place-init c = λ k is. none_unlisted c.args.nodes.now c.args.listed.now k is

pub get-requires : goal.get-requires
get-requires c =
    let nodes = c.args.nodes.now in
    let node = get_or nodes c.loop-place.place 0 in
    let low : c.loop-place.place < length nodes = omega (arith, c.loop-place-test.true) in
    let at = slice_get-get_or nodes c.loop-place.place 0 low in
    let below = live_below c.args.topology.now (number node) (c.requires.live node (contains_at nodes c.loop-place.place node at)) in
    let wide = c.requires.listed in
    omega arith

pub overflow_cast-node : goal.overflow_cast-node
overflow_cast-node c =
    let nodes = c.args.nodes.now in
    let node = get_or nodes c.loop-place.place 0 in
    let low : c.loop-place.place < length nodes = omega (arith, c.loop-place-test.true) in
    let at = slice_get-get_or nodes c.loop-place.place 0 low in
    let below = live_below c.args.topology.now (number node) (c.requires.live node (contains_at nodes c.loop-place.place node at)) in
    let few = c.node_capacity-capacity.ensures.few in
    let value = c.node_capacity-capacity.ensures.value in
    omega arith

pub copy_name-requires : goal.copy_name-requires
copy_name-requires c =
    let nodes = c.args.nodes.now in
    let node = get_or nodes c.loop-place.place 0 in
    let low : c.loop-place.place < length nodes = omega (arith, c.loop-place-test.true) in
    let at = slice_get-get_or nodes c.loop-place.place 0 low in
    c.requires.live node (contains_at nodes c.loop-place.place node at)

pub loop-place-preserved : goal.loop-place-preserved
loop-place-preserved c =
    let n = c.args.topology.now in
    let nodes = c.args.nodes.now in
    let listed = c.args.listed.now in
    let place = c.loop-place.place in
    let node = get_or nodes place 0 in
    let low : place < length nodes = omega (arith, c.loop-place-test.true) in
    let at = slice_get-get_or nodes place 0 low in
    let After : Option NodeName → Type 0 = λ least. IsLeastIfAny n (IsUnlistedTo nodes listed (place + 1)) least in
    elim c.if-not-get.branch [
      | then-not-get+in_ok-name w ↦
          subst After (sym w.least-is)
          (least_more nodes listed place node at n c.loop-place.least w.in_ok-name.name w.lesser.result
          (λ has. false≢true (sym w.if-not-get.true ∙ (c.get.ensures ∙ has))) w.in_ok-name.ensures w.lesser.ensures c.loop-place.invariant)
      | else-not-get w ↦ subst After (sym w.least-is) (least_past nodes listed place node at n c.loop-place.least (sym c.get.ensures ∙ w.if-not-get.false) c.loop-place.invariant)
    ]

pub returns : goal.returns
returns c =
    let nodes = c.args.nodes.now in
    let end : length nodes ≤ c.loop-place.place = omega (arith, c.loop-place-test.false) in
    least_all c.args.topology.now nodes c.args.listed.now c.loop-place.place c.loop-place.least end c.loop-place.invariant

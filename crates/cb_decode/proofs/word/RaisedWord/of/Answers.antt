use Rattle.std.proofs.Common.{◌≡◌, ◌+◌, ◌<◌, ◌++◌, ◌∷◌, [], List, length, take, replicate, false, sym, ap, subst, ◌∙◌, get_or, arith}
use Rattle.std.proofs.lemmas.List.{take_more, take_all}
use Rattle.cb_model.specs.declared.node.NodeName.{NodeName}
use Rattle.cb_topo.specs.Numbered.{AreNamed}
use Rattle.cb_decode.specs.Found.{IsPlaceAmong}
use Rattle.cb_decode.proofs.Raising.{AreRaised, none_raised, column_raised, other_raised, all_raised}
use Rattle.cb_decode.proofs.word.RaisedWord.of.Goals.{in-Some, in-None}
use Rattle.cb_decode.proofs.word.RaisedWord.of.Goals as goal

pub loop-node-init : goal.loop-node-init
loop-node-init c = none_raised c.args.topology.now c.args.columns.now c.in_ok-word.word (c.in_ok-word.ensures ∙ ap (λ n. replicate n false) c.len.ensures)

pub loop-node-preserved : goal.loop-node-preserved
loop-node-preserved c =
    let n = c.args.topology.now in
    let ids = c.args.columns.now in
    let nodes = c.args.nodes.now in
    let i = c.loop-node.node-index in
    let node = c.node-item.result in
    let more = take (i + 1) nodes in
    let items = c.as_slice-node-items.ensures in
    let within = subst (λ (xs : List NodeName). i < length xs) items c.loop-node-test.true in
    let is = c.node-item.is ∙ ap (λ (xs : List NodeName). get_or xs i node) items in
    let joins : more ≡ take i nodes ++ node ∷ [] = take_more nodes i node within ∙ ap (λ (x : NodeName). take i nodes ++ x ∷ []) (sym is) in
    elim c.match-position_of.branch [
      | in-Some w ↦
          rw (w.word-is ∙ w.set.ensures, w.unknown-is)
          (column_raised n ids (take i nodes) more node joins c.loop-node.word c.loop-node.unknown c.loop-node.invariant w.in-Some.position w.in-Some.ensures.within w.in-Some.ensures.place)
      | in-None w ↦
          rw (w.word-is, w.unknown-is)
          (other_raised n ids (take i nodes) more node joins c.loop-node.word c.loop-node.unknown c.loop-node.invariant w.in-None.ensures.place)
    ]

pub returns : goal.returns
returns c =
    let n = c.args.topology.now in
    let ids = c.args.columns.now in
    let nodes = c.args.nodes.now in
    let items = ap length c.as_slice-node-items.ensures in
    let past = c.loop-node-test.false in
    let all = subst (λ (xs : List NodeName). AreRaised n ids xs c.loop-node.word c.loop-node.unknown) (take_all c.loop-node.node-index nodes (omega arith)) c.loop-node.invariant in
    all_raised n ids nodes (record { word = c.loop-node.word; raised = c.len-2.result; unknown = c.loop-node.unknown }) c.requires all c.len-2.ensures

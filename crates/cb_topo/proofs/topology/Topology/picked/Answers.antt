use Rattle.std.proofs.Common.{take, slice_index_or, List, [], ◌∷◌, ◌++◌, sym, subst, ◌∙◌}
use Rattle.std.proofs.lemmas.Bool.{false≢true}
use Rattle.std.proofs.lemmas.List.{take_more, take_all}
use Rattle.cb_nodes.specs.declared.id.NodeId.{NodeId}
use Rattle.cb_topo.specs.Settled.{IsBefore}
use Rattle.cb_topo.proofs.Rising.{ArePicked, picked_past, picked_more, picked_all, before_next}
use Rattle.cb_topo.proofs.topology.Topology.picked.Goals as goal
use Rattle.cb_topo.proofs.topology.Topology.picked.Goals.{then-is_of+in_ok-push, else-is_of}

pub loop-node-preserved : goal.loop-node-preserved
loop-node-preserved c =
    let n = c.args.self.now in
    let kind = c.args.kind in
    let order = c.args.order.now in
    let i = c.loop-node.node-index in
    let zero : NodeId = record { 0 = 0 } in
    let id = slice_index_or order i zero in
    let inside = c.loop-node-test.true in
    let taken = take i order in
    let more = take_more order i zero inside in
    let rising = c.requires.settled.rising in
    subst (λ (ids : List NodeId). ArePicked n kind ids c.if-is_of.nodes) (sym more)
    (elim c.if-is_of.branch [
      | then-is_of+in_ok-push w ↦
          subst (ArePicked n kind (taken ++ id ∷ [])) (sym (w.nodes-is ∙ w.in_ok-push.ensures.ok))
          (picked_more n kind taken c.loop-node.nodes c.loop-node.invariant id (rising.live i zero inside)
          (λ x named. (c.is_of.ensures x named).0 w.if-is_of.true) (before_next (IsBefore n) order i zero rising.rise inside))
      | else-is_of w ↦
          subst (ArePicked n kind (taken ++ id ∷ [])) (sym w.nodes-is)
          (picked_past n kind taken c.loop-node.nodes c.loop-node.invariant id
          (λ x named is. false≢true (sym w.if-is_of.false ∙ (c.is_of.ensures x named).1 is)))
    ])

pub returns : goal.returns
returns c =
    let n = c.args.self.now in
    let order = c.args.order.now in
    let all = take_all c.loop-node.node-index order c.loop-node-test.false in
    picked_all n c.args.kind c.requires.whole order c.loop-node.nodes c.requires.settled
    (subst (λ (ids : List NodeId). ArePicked n c.args.kind ids c.loop-node.nodes) all c.loop-node.invariant)

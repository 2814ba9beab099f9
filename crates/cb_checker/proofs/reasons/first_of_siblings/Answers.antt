use Rattle.std.proofs.Common.{inl, inr, sym, subst, arith}
use Rattle.cb_nodes.specs.declared.id.NodeId.{NodeId}
use Rattle.cb_graph.specs.Edges.{EdgeAt}
use Rattle.cb_topo.proofs.Positions.{live_below}
use Rattle.cb_checker.specs.Reasons.{HasEnd, IsLed}
use Rattle.cb_checker.proofs.Asking.{first_same}
use Rattle.cb_checker.proofs.reasons.first_of_siblings.Goals as goal

pub clear_ends-requires : goal.clear_ends-requires
clear_ends-requires g c = λ reason in'.
    let low = live_below c.args.graph.now reason.to (c.requires.live reason in').1 in
    let capacity = c.requires.found in
    omega arith

pub first_outside-requires : goal.first_outside-requires
first_outside-requires g c = λ reason in'.
    let low = live_below c.args.graph.now reason.to (c.requires.live reason in').1 in
    let capacity = c.requires.found in
    let cleared = c.clear_ends.ensures.capacity in
    let added = c.add_successors.ensures.length in
    omega arith

pub returns-clause-first : goal.returns-clause-first
returns-clause-first g c =
    let n = c.args.graph.now in
    let siblings = c.args.siblings.now in
    let row = c.add_successors.new.row in
    first_same (HasEnd row) (IsLed n) siblings
    (λ reason in' has. elim ((c.add_successors.ensures.row reason.to.0).0 has) [
      | inl old ↦ absurd (c.clear_ends.ensures.none reason in' old)
      | inr edge ↦ subst (λ (i : NodeId). EdgeAt n i.0 reason.to.0) (sym (c.requires.siblings reason in')) edge
    ])
    (λ reason in' led. (c.add_successors.ensures.row reason.to.0).1 (inr (subst (λ (i : NodeId). EdgeAt n i.0 reason.to.0) (c.requires.siblings reason in') led)))
    c.first_outside.result c.first_outside.ensures

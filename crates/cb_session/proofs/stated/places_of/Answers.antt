use Rattle.std.proofs.Common.{◌+◌, List, ℕ, take, sym, subst, arith}
use Rattle.std.proofs.lemmas.List.{take_all}
use Rattle.cb_topo.specs.Numbered.{topology_of}
use Rattle.cb_session.specs.Stated.{ArePlacesFor}
use Rattle.cb_session.proofs.Places.{counted, within, column_is, one_more_place}
use Rattle.cb_session.proofs.stated.places_of.Goals as goal

pub overflow_sub-number : goal.overflow_sub-number
overflow_sub-number c =
    let some = counted (topology_of c.args.topology.now) c.args.nodes.now c.args.numbers.now c.requires.numbers c.loop-k.k c.at.result.now c.at.ensures in
    omega (arith, some)

pub at-requires-in-loop-k : goal.at-requires-in-loop-k
at-requires-in-loop-k c = within (topology_of c.args.topology.now) c.args.nodes.now c.args.numbers.now c.requires.numbers c.loop-k.k c.at.result.now c.at.ensures

pub place_of-requires-clause-is : goal.place_of-requires-clause-is
place_of-requires-clause-is c =
    column_is (topology_of c.args.topology.now) c.args.nodes.now c.args.numbers.now c.requires.numbers c.loop-k.k c.at.result.now c.at.ensures c.at-in-loop-k.result.now
    c.at-in-loop-k.ensures

pub loop-k-preserved : goal.loop-k-preserved
loop-k-preserved c =
    let t = topology_of c.args.topology.now in
    subst (λ (ps : List ℕ). ArePlacesFor t c.args.nodes.now (take (c.loop-k.k + 1) c.args.numbers.now) ps) (sym c.in_ok-push.ensures.ok)
    (one_more_place t c.args.nodes.now c.args.numbers.now c.requires.numbers c.loop-k.k c.at.result.now c.at.ensures c.at-in-loop-k.result.now
    c.at-in-loop-k.ensures c.loop-k.places c.place_of.result c.loop-k.invariant c.place_of.ensures)

pub returns : goal.returns
returns c =
    let numbers = c.args.numbers.now in
    subst (λ (ns : List ℕ). ArePlacesFor (topology_of c.args.topology.now) c.args.nodes.now ns c.loop-k.places)
    (take_all c.loop-k.k numbers (omega (arith, c.loop-k-test.false, c.len-k-end.ensures))) c.loop-k.invariant

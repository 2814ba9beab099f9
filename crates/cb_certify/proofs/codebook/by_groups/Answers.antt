use Rattle.std.proofs.Common.{◌<◌, ℕ, length, sym, subst, subst₂, List, arith}
use Rattle.cb_codes.specs.Groups.{named_of}
use Rattle.cb_model.specs.declared.node.NamedGroup.{NamedGroup}
use Rattle.cb_topo.specs.Numbered.{Numbered, topology_of}
use Rattle.cb_certify.specs.Members.{HasLeastNode, IsCalledBy, IsMemberAt, IsPairOf}
use Rattle.cb_certify.proofs.Reduced.{are_numbered, has_codebook, first_close, places_within, pair_far, first_pair, called_member, pair_called, has_node}
use Rattle.cb_certify.proofs.codebook.by_groups.Goals as goal

pub first_close-requires : goal.first_close-requires
first_close-requires g c =
    are_numbered (topology_of c.args.graph.now) c.args.groups.now c.requires.groups c.codes.result.now c.codes.ensures.width c.codes.ensures.rows

pub returns-in-None : goal.returns-in-None
returns-in-None g c = (
  has_codebook (topology_of c.args.graph.now) c.args.groups.now c.requires.groups c.codes.result.now c.codes.ensures.width c.codes.ensures.rows c.args.wanted
      c.in-None.ensures.none,
  c.requires.many,
)

pub close_named-close-requires : goal.close_named-close-requires
close_named-close-requires g c =
    let n = c.args.graph.now in
    let made = c.args.groups.now in
    let are = c.requires.groups in
    let pair = c.in-Some.pair in
    let is = c.in-Some.ensures.pair in
    let (below, within) = places_within (topology_of n) made are c.codes.result.now c.codes.ensures.width c.codes.ensures.rows c.args.wanted pair is in
    let node : (place : ℕ) → 0 < place → place < length made.groups → HasLeastNode c.topology.result.now c.named.result.now place =
    λ place later low. subst₂ (λ (m : Numbered) (named : List NamedGroup). HasLeastNode m named place) (sym c.topology.ensures) (sym c.named.ensures)
    (has_node n are.columns made.groups are.matrix place later low) in
    record { first = λ later. node pair.first later (omega arith); second = node pair.second (omega arith) within; later = omega arith }

pub shortfall-requires-clause-pair : goal.shortfall-requires-clause-pair
shortfall-requires-clause-pair g c =
    let n = c.args.graph.now in
    let made = c.args.groups.now in
    let are = c.requires.groups in
    let pair = c.in-Some.pair in
    let is = c.in-Some.ensures.pair in
    let close = c.close_named-close.result in
    let by_names = subst₂ (λ (m : Numbered) (named : List NamedGroup). IsPairOf (IsMemberAt m named) pair close) c.topology.ensures c.named.ensures c.close_named-close.ensures in
    first_pair n made are c.args.wanted pair close
    (first_close (topology_of n) made are c.codes.result.now c.codes.ensures.width c.codes.ensures.rows c.args.wanted pair is)
    (pair_called (IsMemberAt n (named_of made.groups)) (IsCalledBy n made.groups) pair close (called_member n made.groups pair.first) (called_member n made.groups pair.second) by_names)

pub shortfall-requires-clause-far : goal.shortfall-requires-clause-far
shortfall-requires-clause-far g c =
    let pair = c.in-Some.pair in
    let is = c.in-Some.ensures.pair in
    let far = pair_far (topology_of c.args.graph.now) c.args.groups.now c.requires.groups c.codes.result.now c.codes.ensures.width c.codes.ensures.rows c.args.wanted pair is in
    let same = c.close_named-close.ensures.distance in
    omega arith

use Rattle.std.proofs.Common.{List, slice_index_or, refl, subst}
use Rattle.std.proofs.lemmas.List.{take_all}
use Rattle.cb_instances.specs.declared.id.InstanceId.{InstanceId}
use Rattle.cb_instances.specs.Net.{name_at}
use Rattle.cb_topo.specs.Numbered.{topology_of}
use Rattle.cb_inverse.specs.Listed.{AreLinkEdits, IsBeforeOrAmong}
use Rattle.cb_inverse.proofs.Linking.{at_start, at_end, next_linked, at}
use Rattle.cb_inverse.proofs.links.add_links.Goals as goal

-- any number, where there is no item
abbrev zero : InstanceId
zero = record { 0 = 0 }

pub loop-to-init : goal.loop-to-init
loop-to-init c =
    let n = c.args.topology.now.net in
    at_start n c.model-model.ensures.whole.net c.args.id c.requires.live c.args.rel c.links-ids.result.now c.links-ids.ensures.exactly c.links-ids.ensures.once c.args.edits.now.items
    c.requires.before

pub add_link-requires-clause-link : goal.add_link-requires-clause-link
add_link-requires-clause-link c =
    let n = c.args.topology.now.net in
    at n c.model-model.ensures.whole.net c.args.id c.requires.live c.args.rel c.links-ids.result.now c.links-ids.ensures.exactly c.links-ids.ensures.once
    c.loop-to.to-index zero (slice_index_or c.links-ids.result.now c.loop-to.to-index zero) c.loop-to-test.true refl

pub loop-to-preserved : goal.loop-to-preserved
loop-to-preserved c =
    let n = c.args.topology.now.net in
    next_linked n c.model-model.ensures.whole.net c.args.id c.requires.live c.args.rel c.links-ids.result.now c.links-ids.ensures.exactly c.links-ids.ensures.once
    c.loop-to.to-index zero (slice_index_or c.links-ids.result.now c.loop-to.to-index zero) c.loop-to-test.true refl c.loop-to.edits.items c.add_link.new.edits.items c.loop-to.invariant c.in_ok-add_link.ensures

pub returns : goal.returns
returns c =
    let n = c.args.topology.now in
    let ids = c.links-ids.result.now in
    at_end n.net c.model-model.ensures.whole.net c.args.id c.requires.live c.args.rel ids c.links-ids.ensures.exactly c.links-ids.ensures.once c.loop-to.edits.items
    (subst (λ (xs : List InstanceId). AreLinkEdits (topology_of n) (name_at n.net c.args.id) (IsBeforeOrAmong n.net c.args.rel xs) c.loop-to.edits.items)
    (take_all c.loop-to.to-index ids c.loop-to-test.false) c.loop-to.invariant)

use Rattle.std.proofs.Common.{◌<◌, ◌≤◌, ◌+◌, ℕ, length, sym, subst, ◌∙◌, arith}
use Rattle.cb_model.specs.declared.tables.Tables.{Tables}
use Rattle.cb_network.proofs.Typed.{typed_is_regular}
use Rattle.cb_instances.specs.Net.{name_at}
use Rattle.cb_topo.specs.Numbered.{topology_of}
use Rattle.cb_inverse.specs.Listed.{AreLinkEdits, IsBeforePosition}
use Rattle.cb_inverse.proofs.Linking.{none_listed, all_linked, all_positions}
use Rattle.cb_inverse.proofs.links.link_edits.Goals as goal

pub loop-position-init : goal.loop-position-init
loop-position-init c =
    let n = c.args.topology.now in
    subst (AreLinkEdits (topology_of n) (name_at n.net c.args.id) (IsBeforePosition 0)) (sym c.new-edits.ensures.items)
    (none_listed (topology_of n) (name_at n.net c.args.id) (IsBeforePosition 0) (λ l low. omega arith))

pub relation_at-rel-requires : goal.relation_at-rel-requires
relation_at-rel-requires c =
    let path = c.tables.ensures.value ∙ c.model.ensures.value in
    subst (λ (m : Tables). c.loop-position.position < length m.relations) path (omega (arith, c.loop-position-test.true, c.len-position-end.ensures))

pub add_links-requires-clause-rel : goal.add_links-requires-clause-rel
add_links-requires-clause-rel c =
    let path = c.tables.ensures.value ∙ c.model.ensures.value in
    let low : c.loop-position.position < length (topology_of c.args.topology.now).model.relations =
    subst (λ (m : Tables). c.loop-position.position < length m.relations) path (omega (arith, c.loop-position-test.true, c.len-position-end.ensures)) in
    omega (arith, low, c.relation_at-rel.ensures)

pub add_links-requires-clause-before : goal.add_links-requires-clause-before
add_links-requires-clause-before c =
    let n = c.args.topology.now in
    subst (λ (k : ℕ). AreLinkEdits (topology_of n) (name_at n.net c.args.id) (IsBeforePosition k) c.loop-position.edits.items) (sym c.relation_at-rel.ensures) c.loop-position.invariant

pub loop-position-preserved : goal.loop-position-preserved
loop-position-preserved c =
    let n = c.args.topology.now in
    subst (λ (k : ℕ). AreLinkEdits (topology_of n) (name_at n.net c.args.id) (IsBeforePosition (k + 1)) c.add_links.new.edits.items) c.relation_at-rel.ensures c.in_ok-add_links.ensures

pub returns : goal.returns
returns c =
    let n = c.args.topology.now in
    let path = c.tables.ensures.value ∙ c.model.ensures.value in
    let end : length (topology_of n).model.relations ≤ c.loop-position.position =
    subst (λ (m : Tables). length m.relations ≤ c.loop-position.position) path (omega (arith, c.loop-position-test.false, c.len-position-end.ensures)) in
    all_linked (topology_of n) (typed_is_regular (topology_of n).model c.model.ensures.typed) c.model.ensures.sound (name_at n.net c.args.id) c.loop-position.edits.items
    (all_positions (topology_of n) (name_at n.net c.args.id) c.loop-position.position c.loop-position.edits.items end c.model.ensures.sound c.loop-position.invariant)

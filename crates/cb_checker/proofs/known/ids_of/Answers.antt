use Rattle.std.proofs.Common.{◌≡◌, length, refl, sym, subst, ◌∙◌, arith}
use Rattle.std.proofs.lemmas.Option.{same_Some, slice_get_read}
use Rattle.cb_network.specs.Nodes.{IsNodeOf}
use Rattle.cb_topo.specs.Numbered.{topology_of, IsNodeNamed}
use Rattle.cb_checker.proofs.Naming.{zipped_more, all_zipped}
use Rattle.cb_checker.proofs.known.ids_of.Goals as goal

pub id_of-requires : goal.id_of-requires
id_of-requires c =
    let nodes = c.args.nodes.now in
    let good = c.requires c.loop-place.place c.loop-place-test.true in
    let at = slice_get_read nodes (length nodes) c.loop-place.place c.index-nodes-place.result refl c.loop-place-test.true c.index-nodes-place.is in
    subst (IsNodeOf (topology_of c.args.topology.now)) (same_Some good.node c.index-nodes-place.result (sym good.is ∙ at)) good.live

pub loop-place-preserved : goal.loop-place-preserved
loop-place-preserved c =
    let nodes = c.args.nodes.now in
    let at = slice_get_read nodes (length nodes) c.loop-place.place c.index-nodes-place.result refl c.loop-place-test.true c.index-nodes-place.is in
    rw c.in_ok-push.ensures.items
    (zipped_more (IsNodeNamed c.args.topology.now) c.loop-place.place c.loop-place.ids.items nodes c.loop-place.invariant c.id_of.result c.index-nodes-place.result
    at c.id_of.ensures)

pub returns : goal.returns
returns c =
    let end : c.loop-place.place ≡ length c.args.nodes.now = omega arith in
    all_zipped (IsNodeNamed c.args.topology.now) c.loop-place.place c.loop-place.ids.items c.args.nodes.now c.loop-place.invariant end

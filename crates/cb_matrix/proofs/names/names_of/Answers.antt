use Rattle.std.proofs.Common.{◌+◌, length, slice_index_or, take, sym, ap, subst, arith}
use Rattle.cb_nodes.specs.declared.id.NodeId.{NodeId}
use Rattle.cb_topo.specs.Numbered.{IsLiveNode, IsNodeNamed, AreNamed}
use Rattle.cb_matrix.proofs.Matched.{zip_more}
use Rattle.cb_matrix.proofs.names.names_of.Goals as goal

pub copy_name-requires : goal.copy_name-requires
copy_name-requires c =
    let zero : NodeId = record { 0 = 0 } in
    let i = c.loop-node.node-index in
    subst (λ items. IsLiveNode c.args.topology.now (slice_index_or items i zero)) (sym c.as_slice-node-items.ensures)
    (c.requires i zero (omega (arith, c.loop-node-test.true, ap length c.as_slice-node-items.ensures)))

pub loop-node-preserved : goal.loop-node-preserved
loop-node-preserved c =
    let zero : NodeId = record { 0 = 0 } in
    let i = c.loop-node.node-index in
    let n = c.args.topology.now in
    let nodes = c.args.nodes.now in
    let name = c.in_ok-copy_name.field-0 in
    let here = subst (λ items. IsNodeNamed n (slice_index_or items i zero) name) c.as_slice-node-items.ensures c.in_ok-copy_name.ensures in
    subst (AreNamed n (take (i + 1) nodes)) (sym c.in_ok-push.ensures.ok)
    (zip_more (IsNodeNamed n) nodes c.loop-node.names i zero name (omega (arith, c.loop-node-test.true, ap length c.as_slice-node-items.ensures)) c.loop-node.invariant here)

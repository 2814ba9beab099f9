use Rattle.std.proofs.Common.{length, arith, ap, ◌++◌, ◌∙◌}
use Rattle.cb_levels.specs.declared.line.LevelLine.TheVariants as line
use Rattle.cb_levels.specs.Text.{ended_line}
use Rattle.cb_levels.proofs.Adding.{item_step}
use Rattle.cb_levels.proofs.writer.push_nodes.Goals as goal

pub loop-node-preserved : goal.loop-node-preserved
loop-node-preserved c =
    let node = c.node-item.result in
    item_step line.Node c.args.nodes.now c.args.out.now.items c.loop-node.out.items _ (line.Nodes (length c.args.nodes.now)) c.loop-node.node-index node
    (omega arith) c.loop-node.invariant (c.in_ok-push_node.ensures ∙ ap (λ n. c.loop-node.out.items ++ ended_line (line.Node n)) c.node-item.is)

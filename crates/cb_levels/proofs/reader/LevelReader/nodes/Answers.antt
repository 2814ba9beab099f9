use Rattle.std.proofs.Common.{◌+◌, sym, subst, arith}
use Rattle.cb_levels.specs.Steps.{ReadsNodes}
use Rattle.cb_levels.proofs.Expecting.{exit}
use Rattle.cb_levels.proofs.Repeating.{NodesSoFar, no_count_of_nodes, nodes_more, no_node, nodes_all}
use Rattle.cb_levels.proofs.reader.LevelReader.nodes.Goals as goal

pub returns-in_err-count : goal.returns-in_err-count
returns-in_err-count c =
    exit (ReadsNodes c.args.self.now c.count.new.self) c.from_residual.result _ c.from_residual.ensures.1
    (no_count_of_nodes c.args.self.now _ c.in_err-count.ensures)

pub returns-in_err-node : goal.returns-in_err-node
returns-in_err-node c =
    exit (ReadsNodes c.args.self.now c.node.new.self) c.from_residual-in_err-node.result _ c.from_residual-in_err-node.ensures.1
    (no_node c.args.self.now c.loop.self c.in_ok-count.count c.loop.counter c.loop.nodes c.loop.invariant (omega arith) _ c.in_err-node.ensures)

pub loop-preserved : goal.loop-preserved
loop-preserved c =
    let count = c.in_ok-count.count in
    let grown = nodes_more c.args.self.now c.loop.self count c.loop.counter c.loop.nodes c.loop.invariant c.node.new.self c.in_ok-node.field-0 c.in_ok-node.ensures in
    subst (λ ys. NodesSoFar c.args.self.now c.node.new.self count (c.loop.counter + 1) ys) (sym c.in_ok-push.ensures.ok) grown

pub returns : goal.returns
returns c text read = nodes_all c.args.self.now c.loop.self c.in_ok-count.count c.loop.counter c.loop.nodes c.loop.invariant (omega arith) text read

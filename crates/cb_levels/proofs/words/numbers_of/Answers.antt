use Rattle.std.proofs.Common.{arith}
use Rattle.std.specs.Fmt.{decimal}
use Rattle.cb_levels.proofs.Parting.{first_parts, second_parts}
use Rattle.cb_levels.proofs.words.numbers_of.Goals as goal

pub returns-in_err-level : goal.returns-in_err-level
returns-in_err-level c =
    rw c.from_residual-in_err-level.ensures (λ e good is.
    let few = c.ranges.nodes.fits in
    let parts = first_parts c.args.nodes (omega arith) c.args.bytes.now e good is c.in_ok-node.node.now c.in_ok-node.rest.now c.in_ok-node.ensures.some in
    c.in_err-level.ensures.none (decimal e.level) (decimal e.parent) parts.1)

pub returns-in_err-node-2 : goal.returns-in_err-node-2
returns-in_err-node-2 c =
    rw c.from_residual-in_err-node-2.ensures (λ e good is.
    let few = c.ranges.nodes.fits in
    let parts = first_parts c.args.nodes (omega arith) c.args.bytes.now e good is c.in_ok-node.node.now c.in_ok-node.rest.now c.in_ok-node.ensures.some in
    c.in_err-node-2.ensures.none e.node good.node parts.0)

pub returns-in_err-level-2 : goal.returns-in_err-level-2
returns-in_err-level-2 c =
    rw c.from_residual-in_err-level-2.ensures (λ e good is.
    let few = c.ranges.nodes.fits in
    let parts = second_parts c.args.nodes (omega arith) c.args.bytes.now e good is c.in_ok-node.node.now c.in_ok-node.rest.now c.in_ok-node.ensures.some
    c.in_ok-level.level.now c.in_ok-level.parent.now c.in_ok-level.ensures.some
    in
    c.in_err-level-2.ensures.none e.level (omega arith, good.level) parts.0)

pub returns-in_err-parent : goal.returns-in_err-parent
returns-in_err-parent c =
    rw c.from_residual-in_err-parent.ensures (λ e good is.
    let few = c.ranges.nodes.fits in
    let parts = second_parts c.args.nodes (omega arith) c.args.bytes.now e good is c.in_ok-node.node.now c.in_ok-node.rest.now c.in_ok-node.ensures.some
    c.in_ok-level.level.now c.in_ok-level.parent.now c.in_ok-level.ensures.some
    in
    c.in_err-parent.ensures.none e.parent (omega arith, good.parent) parts.1)

use Rattle.std.proofs.Common.{◌≤◌, List, None, length, subst, arith}
use Rattle.cb_nodes.specs.declared.id.NodeId.{NodeId}
use Rattle.cb_topo.specs.Columns.{IsPositionOf}
use Rattle.cb_topo.proofs.Positions.{no_position_past}
use Rattle.cb_topo.proofs.columns.ColumnIndex.position.Goals as goal

pub returns-else-node-len : goal.returns-else-node-len
returns-else-node-len c =
    let nodes = c.self.inside.nodes in
    let positions = c.self.inside.positions.items in
    let past : length positions ≤ c.args.id.0 = omega (arith, c.if-node-len.false, c.len.ensures) in
    subst (λ (all : List NodeId). IsPositionOf all c.args.id None) c.self.view_is (no_position_past nodes positions c.self.invariant c.args.id past)

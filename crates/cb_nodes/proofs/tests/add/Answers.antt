use Rattle.std.proofs.Common.{refl}
use Rattle.cb_nodes.specs.Table.{node_of}
use Rattle.cb_nodes.proofs.tests.add.Goals as goal

-- the instance had its nodes taken away
pub add-requires-clause-new : goal.add-requires-clause-new
add-requires-clause-new c = λ e has. ((c.remove.ensures.each has.0 (node_of c.args.instance e)).0 has.1).1 refl

use Rattle.cb_text.proofs.Cuts.{node_read_once}
use Rattle.cb_text.proofs.node.nodes_are_read_once.Goals as goal

pub returns : goal.returns
returns c = node_read_once

use Rattle.cb_request.proofs.NodesRead.{node_is_read}
use Rattle.cb_request.proofs.laws.node_is_read.Goals as goal

pub returns : goal.returns
returns c = node_is_read

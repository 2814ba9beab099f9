use Rattle.cb_existence.proofs.Closings.{window_nodes}
use Rattle.cb_existence.proofs.laws.window_nodes_exist.Goals as goal

pub returns : goal.returns
returns c = window_nodes

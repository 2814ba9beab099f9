use Rattle.cb_line_files.proofs.Trees.{added}
use Rattle.cb_line_files.proofs.nodes.add.Goals as goal

pub returns : goal.returns
returns c = added c.args.nodes.now c.insert.new.self c.args.node c.in_ok-insert.ensures.updates

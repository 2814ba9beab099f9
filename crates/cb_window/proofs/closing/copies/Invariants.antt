use Rattle.std.proofs.Common.{◌≡◌, ◌++◌}
use Rattle.cb_window.proofs.closing.copies.Given as goal

abbrev pub invariant-loop-node : goal.invariant-loop-node
invariant-loop-node l = l.copies ++ l.node-iterator ≡ l.nodes.keys

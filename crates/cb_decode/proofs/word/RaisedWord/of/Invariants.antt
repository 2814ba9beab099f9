use Rattle.std.proofs.Common.{take}
use Rattle.cb_decode.proofs.Raising.{AreRaised}
use Rattle.cb_decode.proofs.word.RaisedWord.of.Given as goal

abbrev pub invariant-loop-node : goal.invariant-loop-node
invariant-loop-node l = AreRaised l.topology l.columns (take l.node-index l.nodes) l.word l.unknown

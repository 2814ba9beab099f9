use Rattle.cb_levels.proofs.Repeating.{NodesSoFar}
use Rattle.cb_levels.proofs.reader.LevelReader.nodes.Given as goal

abbrev pub invariant-loop : goal.invariant-loop
invariant-loop l = NodesSoFar l.fn.self l.self l.count l.counter l.nodes

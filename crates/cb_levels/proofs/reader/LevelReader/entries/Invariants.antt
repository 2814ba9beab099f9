use Rattle.cb_levels.proofs.Repeating.{EntriesSoFar}
use Rattle.cb_levels.proofs.reader.LevelReader.entries.Given as goal

abbrev pub invariant-loop : goal.invariant-loop
invariant-loop l = EntriesSoFar l.fn.nodes l.fn.self l.self l.count l.counter l.entries

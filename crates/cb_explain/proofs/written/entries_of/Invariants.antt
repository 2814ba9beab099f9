use Rattle.cb_span.proofs.Zips.{Zipped}
use Rattle.cb_explain.specs.Levelled.{IsNumberedEntry}
use Rattle.cb_explain.proofs.written.entries_of.Given as goal

abbrev pub invariant-loop-position : goal.invariant-loop-position
invariant-loop-position l = Zipped (IsNumberedEntry l.numbers) l.position l.visits l.entries.items

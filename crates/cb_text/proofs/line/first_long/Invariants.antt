use Rattle.std.specs.List.{All}
use Rattle.cb_text.specs.Lines.{IsShort}
use Rattle.cb_text.proofs.LinesRead.{ReadTo}
use Rattle.cb_text.proofs.line.first_long.Given as goal

abbrev pub invariant-loop-line : goal.invariant-loop-line
invariant-loop-line l = ReadTo l.text (All IsShort) l.line-iterator l.number

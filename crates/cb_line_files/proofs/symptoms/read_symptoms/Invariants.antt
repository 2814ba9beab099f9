use Rattle.cb_line_files.proofs.Listed.{AreNodesOf}
use Rattle.cb_text.proofs.LinesRead.{ReadTo}
use Rattle.cb_line_files.proofs.symptoms.read_symptoms.Given as goal

abbrev pub invariant-loop-line : goal.invariant-loop-line
invariant-loop-line l = ReadTo l.text (AreNodesOf l.raised.keys) l.line-iterator l.number

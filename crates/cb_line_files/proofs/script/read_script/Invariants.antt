use Rattle.cb_text.proofs.LinesRead.{ReadTo}
use Rattle.cb_line_files.specs.Scripts.{ScriptGives}
use Rattle.cb_line_files.proofs.script.read_script.Given as goal

abbrev pub invariant-loop-line : goal.invariant-loop-line
invariant-loop-line l = ReadTo l.text (λ before. ScriptGives 0 before l.script.items) l.line-iterator l.number

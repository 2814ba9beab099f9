use Rattle.cb_text.proofs.LinesRead.{ReadTo}
use Rattle.cb_log_commands.proofs.Counted.{StepsSoFar}
use Rattle.cb_log_commands.proofs.Summing.{SumsSoFar}
use Rattle.cb_log_commands.proofs.sum_up.take_lines.Given as goal

abbrev pub invariant-loop-line : goal.invariant-loop-line
invariant-loop-line g l =
    ReadTo l.log (λ before. SumsSoFar l.fn.session l.fn.summary l.session l.summary before × StepsSoFar l.fn.session l.fn.summary l.fn.steps l.steps before)
    l.line-iterator l.number

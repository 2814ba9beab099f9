use Rattle.cb_report.proofs.Digits.{all_marked}
use Rattle.cb_report.proofs.code_digits.mark_ones.Goals as goal

pub returns : goal.returns
returns c = all_marked c.args.code.now c.loop-column.from c.loop-column.digits c.loop-column.invariant c.in_default.ensures.none

use Rattle.cb_report.proofs.Digits.{all_cleared, none_cleared}
use Rattle.cb_report.proofs.code_digits.clear_ones.Goals as goal

pub returns : goal.returns
returns c = all_cleared c.args.code.now c.loop-column.start c.loop-column.digits c.loop-column.invariant c.in_default.ensures.none

pub loop-column-init : goal.loop-column-init
loop-column-init c = none_cleared c.args.code.now c.args.digits.now c.requires

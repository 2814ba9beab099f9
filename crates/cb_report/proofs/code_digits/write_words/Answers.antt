use Rattle.cb_report.proofs.ByteDigits.{word_more}
use Rattle.std.proofs.Common.{◌∙◌}
use Rattle.cb_report.proofs.code_digits.write_words.Goals as goal

pub loop-i-preserved : goal.loop-i-preserved
loop-i-preserved c = (
  c.write_word.ensures.length ∙ c.loop-i.invariant.0,
  word_more c.args.words.now c.loop-i.i c.loop-i.digits c.write_word.new.digits c.loop-i.invariant.1 c.write_word.ensures.before c.write_word.ensures.digits,
)

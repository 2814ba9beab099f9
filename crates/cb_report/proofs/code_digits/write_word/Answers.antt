use Rattle.cb_report.proofs.ByteDigits.{byte_more, keeps_more}
use Rattle.std.proofs.Common.{◌*◌, ◌∙◌}
use Rattle.cb_report.proofs.code_digits.write_word.Goals as goal

pub loop-i-preserved : goal.loop-i-preserved
loop-i-preserved c =
    let i = c.loop-i.i in
    let at = c.args.at in
    let old = c.loop-i.digits in
    let new = c.write_byte.new.digits in (
      c.write_byte.ensures.length ∙ c.loop-i.invariant.0,
      keeps_more at (8 * i) c.args.digits.now old new c.loop-i.invariant.1 c.write_byte.ensures.before,
      byte_more c.args.word at i old new c.loop-i.invariant.2 c.write_byte.ensures.before c.write_byte.ensures.digits,
    )

use Rattle.std.proofs.Common.{◌∙◌, arith}
use Rattle.std.proofs.lemmas.List.{length-set}
use Rattle.cb_report.proofs.ByteDigits.{digit_more}
use Rattle.cb_report.proofs.code_digits.digits_of.Goals as goal

pub loop-bit-preserved : goal.loop-bit-preserved
loop-bit-preserved c = (
  length-set c.loop-bit.digits c.loop-bit.bit c.bit_digit.result ∙ c.loop-bit.invariant.0,
  digit_more c.loop-bit.digits c.loop-bit.bit c.args.byte c.bit_digit.result c.loop-bit.invariant.0 c.loop-bit-test.true c.loop-bit.invariant.1 c.bit_digit.ensures,
)

pub returns : goal.returns
returns c = record { eight = c.loop-bit.invariant.0; each = λ k lt. c.loop-bit.invariant.1 k (omega arith) }

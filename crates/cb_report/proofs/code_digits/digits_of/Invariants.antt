use Rattle.std.proofs.Common.{◌≡◌, length}
use Rattle.cb_report.specs.ByteDigits.{HasDigits}
use Rattle.cb_report.proofs.code_digits.digits_of.Given as goal

abbrev pub invariant-loop-bit : goal.invariant-loop-bit
invariant-loop-bit l = (length l.digits ≡ 8) × HasDigits l.digits 0 l.bit l.byte

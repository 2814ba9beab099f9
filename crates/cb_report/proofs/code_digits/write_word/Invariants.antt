use Rattle.std.proofs.Common.{◌≡◌, ◌*◌, length}
use Rattle.cb_report.specs.ByteDigits.{HasDigits, KeepsDigitsBefore}
use Rattle.cb_report.proofs.code_digits.write_word.Given as goal

abbrev pub invariant-loop-i : goal.invariant-loop-i
invariant-loop-i l =
    (length l.digits ≡ length l.fn.digits) × KeepsDigitsBefore l.at l.fn.digits l.digits × HasDigits l.digits l.at (8 * l.i) l.word

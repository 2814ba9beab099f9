use Rattle.cb_text.proofs.Digits.{IsReadTo}
use Rattle.cb_text.proofs.decimal.read_digits.Given as goal

abbrev pub invariant-loop-byte : goal.invariant-loop-byte
invariant-loop-byte l = IsReadTo l.bytes l.byte-index l.number

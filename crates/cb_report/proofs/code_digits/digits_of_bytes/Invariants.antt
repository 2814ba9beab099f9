use Rattle.std.proofs.Common.{◌≡◌, ◌<◌, ℕ, [], length, slice_index_or}
use Rattle.cb_report.specs.ByteDigits.{AreDigitsOfByte}
use Rattle.cb_report.proofs.code_digits.digits_of_bytes.Given as goal

abbrev pub invariant-loop-byte : goal.invariant-loop-byte
invariant-loop-byte l =
    (length l.table.items ≡ l.byte) × ((byte : ℕ) → byte < l.byte → AreDigitsOfByte (slice_index_or l.table.items byte []) byte)

use Rattle.std.proofs.Common.{◌≡◌, ◌*◌, ◌<◌, ℕ, length, slice_index_or}
use Rattle.cb_lanes.specs.Words.{bit_of}
use Rattle.cb_report.specs.ByteDigits.{digit_byte}
use Rattle.cb_report.proofs.code_digits.write_words.Given as goal

abbrev pub invariant-loop-i : goal.invariant-loop-i
invariant-loop-i l =
    (length l.digits ≡ length l.fn.digits) × ((k : ℕ) → k < 64 * l.i → slice_index_or l.digits k 0 ≡ digit_byte (bit_of l.words k))

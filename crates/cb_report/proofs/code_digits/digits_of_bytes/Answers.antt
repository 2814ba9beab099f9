use Rattle.std.proofs.Common.{◌+◌, ◌∷◌, [], length, ap, ◌∙◌, arith}
use Rattle.std.proofs.lemmas.List.{length-append}
use Rattle.cb_report.proofs.ByteDigits.{table_more}
use Rattle.cb_report.proofs.code_digits.digits_of_bytes.Goals as goal

pub loop-byte-preserved : goal.loop-byte-preserved
loop-byte-preserved c =
    let pushed = rw c.in_ok-push.was at c.push.ensures.items in (
      ap length pushed ∙ length-append c.loop-byte.table.items (c.digits_of.result ∷ []) ∙ ap (λ n. n + 1) c.loop-byte.invariant.0,
      table_more c.loop-byte.table.items c.push.new.self.items c.loop-byte.byte c.digits_of.result c.loop-byte.invariant.0 pushed c.digits_of.ensures c.loop-byte.invariant.1,
    )

pub returns : goal.returns
returns c = record { all = c.loop-byte.invariant.0 ∙ omega arith; each = λ byte lt. c.loop-byte.invariant.1 byte (omega arith) }

use Rattle.std.proofs.Common.{List, ℕ, sym, subst, arith}
use Rattle.cb_report.specs.ByteDigits.{AreDigitsOfByte}
use Rattle.cb_report.proofs.ByteDigits.{byte_there}
use Rattle.cb_report.proofs.code_digits.write_byte.Goals as goal

pub returns-clause-digits : goal.returns-clause-digits
returns-clause-digits c =
    let is = c.requires.table.each c.args.byte c.requires.byte in
    byte_there c.args.digits.now c.copy_from_slice.new.self c.args.at _ c.args.byte c.requires.room (omega arith)
    (subst (λ (l : List ℕ). AreDigitsOfByte l c.args.byte) (sym (c.copy_from_slice.ensures.after)) is)

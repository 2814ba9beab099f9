use Rattle.std.proofs.Common.{◌≡◌, false}
use Rattle.cb_test_base.proofs.io.reported_lines.Given as goal

abbrev pub invariant-answers : goal.invariant-answers
invariant-answers l = l.reader.refused ≡ false

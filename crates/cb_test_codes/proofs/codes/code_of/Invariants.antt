use Rattle.std.proofs.Common.{◌≡◌, length}
use Rattle.cb_test_codes.proofs.codes.code_of.Given as goal

abbrev pub invariant-loop-column : goal.invariant-loop-column
invariant-loop-column l = length l.code ≡ 3

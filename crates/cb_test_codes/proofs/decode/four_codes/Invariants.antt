use Rattle.std.proofs.Common.{◌≡◌}
use Rattle.cb_test_codes.proofs.decode.four_codes.Given as goal

abbrev pub invariant-loop-text : goal.invariant-loop-text
invariant-loop-text l = l.codes.width ≡ 5

use Rattle.cb_codes.specs.Grouped.{FitsTogether}
use Rattle.cb_test_codes.proofs.decode.three_groups.Given as goal

abbrev pub invariant-loop-event : goal.invariant-loop-event
invariant-loop-event l = FitsTogether 3 l.grouping

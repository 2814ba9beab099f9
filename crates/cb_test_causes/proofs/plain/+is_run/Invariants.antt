use Rattle.std.proofs.Common.{length}
use Rattle.cb_test_causes.proofs.plain.+is_run.Given as goal

abbrev pub decreases-is_run : goal.decreases-is_run
decreases-is_run l = length l.links.now

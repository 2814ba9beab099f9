use Rattle.std.proofs.Common.{◌≡◌, ◌<◌, ℕ, true, length}
use Rattle.cb_coding.specs.Distance.{bit}
use Rattle.cb_reduce.proofs.single.every_one.Given as goal

abbrev pub invariant-loop-column : goal.invariant-loop-column
invariant-loop-column l = record {
  long : length l.mask ≡ l.width;
  set : (k : ℕ) → k < l.column → bit l.mask k ≡ true;
}

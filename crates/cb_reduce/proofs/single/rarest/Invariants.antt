use Rattle.std.proofs.Common.{◌≡◌, ◌<◌, ◌≤◌, ◌-◌, ℕ, true, false, length}
use Rattle.std.specs.Prelude.{IfSome, IfNone}
use Rattle.cb_coding.specs.Distance.{bit}
use Rattle.cb_reduce.proofs.single.rarest.Given as goal

abbrev pub invariant-loop-column : goal.invariant-loop-column
invariant-loop-column l = record {
  within : l.from ≤ length l.code;
  has : IfSome l.best (λ column. bit l.code column ≡ true);
  stands : IfSome l.best (λ column. bit l.mask column ≡ true);
  none : IfNone l.best ((column : ℕ) → column < l.from → bit l.code column ≡ true → bit l.mask column ≡ false);
}

abbrev pub decreases-loop-column : goal.decreases-loop-column
decreases-loop-column l = length l.code - l.from

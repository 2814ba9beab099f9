use Rattle.std.proofs.Common.{◌≡◌, ◌+◌, ◌*◌, ◌<◌}
use Rattle.cb_compact.specs.Compact.{differing_before}
use Rattle.cb_compact.proofs.apart.nth_apart.Given as goal

-- how many of the n are left after the words so far
abbrev pub invariant-loop-i : goal.invariant-loop-i
invariant-loop-i l = (differing_before (64 * l.i) l.one l.other + l.left ≡ l.n) × (0 < l.left)

use Rattle.std.proofs.Common.{◌≡◌, ◌<◌, ℕ, get_or, false}
use Rattle.cb_coding.specs.Distance.{bit, code_at, apart}
use Rattle.cb_reduce.specs.Places.{kept_of}
use Rattle.cb_reduce.proofs.single.agrees_with_some.Given as goal

abbrev pub invariant-loop-other : goal.invariant-loop-other
invariant-loop-other l = (k d : ℕ) → k < l.other-index → bit (code_at l.codes.rows (get_or l.others k d)) l.column ≡ false
    → 0 < apart (kept_of l.rest) l.codes.rows l.place (get_or l.others k d)

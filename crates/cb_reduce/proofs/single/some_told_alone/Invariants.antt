use Rattle.std.proofs.Common.{◌<◌, ℕ, get_or}
use Rattle.cb_reduce.specs.Alone.{NoneAloneWith}
use Rattle.cb_reduce.specs.Places.{kept_of}
use Rattle.cb_reduce.proofs.single.some_told_alone.Given as goal

abbrev pub invariant-loop-place : goal.invariant-loop-place
invariant-loop-place l = (k d : ℕ) → k < l.place-index → NoneAloneWith l.codes.rows (kept_of l.rest) l.column (get_or l.places k d)

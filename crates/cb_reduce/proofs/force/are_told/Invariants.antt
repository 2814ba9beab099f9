use Rattle.std.proofs.Common.{◌<◌, ◌≤◌, ℕ}
use Rattle.cb_coding.specs.Distance.{all_columns, apart}
use Rattle.cb_reduce.specs.Places.{kept_of}
use Rattle.cb_reduce.proofs.force.are_told.Given as goal

abbrev pub invariant-loop-place : goal.invariant-loop-place
invariant-loop-place l = (i : ℕ) → i < l.place → apart (all_columns l.codes.width) l.codes.rows 0 i ≤ apart (kept_of l.marked) l.codes.rows 0 i

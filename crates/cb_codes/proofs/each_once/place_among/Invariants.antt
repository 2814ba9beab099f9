use Rattle.std.proofs.Common.{◌≡◌, ℕ, ◌<◌, slice_get, Some}
use Rattle.cb_codes.proofs.each_once.place_among.Given as goal

-- the code is at none of the positions before
abbrev pub invariant-loop-place : goal.invariant-loop-place
invariant-loop-place l = (i : ℕ) → i < l.place → ¬ (slice_get l.codes.rows i ≡ Some l.code)

use Rattle.std.proofs.Common.{◌≡◌, take}
use Rattle.cb_compact.specs.Compact.{with_ones}
use Rattle.cb_compact.proofs.places.row_at.Given as goal

abbrev pub invariant-loop-place : goal.invariant-loop-place
invariant-loop-place l = l.row ≡ with_ones (take l.place-index l.places) l.len

use Rattle.std.proofs.Common.{◌≡◌, length, take}
use Rattle.cb_distance.specs.Chosen.{AreOver}
use Rattle.cb_distance.proofs.chosen.chosen.Given as goal

abbrev pub invariant-loop-place : goal.invariant-loop-place
invariant-loop-place l = (l.chosen.width ≡ length l.columns) × AreOver l.columns (take l.place l.codes.rows) l.chosen.rows

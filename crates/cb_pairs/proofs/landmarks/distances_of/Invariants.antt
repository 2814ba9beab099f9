use Rattle.std.proofs.Common.{length, take}
use Rattle.cb_pairs.specs.Landmarks.{AreDistances}
use Rattle.cb_pairs.proofs.landmarks.distances_of.Given as goal

abbrev pub invariant-loop-place : goal.invariant-loop-place
invariant-loop-place l = AreDistances (length l.code) (take l.place l.rows) l.code l.distances

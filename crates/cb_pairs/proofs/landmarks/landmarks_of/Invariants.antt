use Rattle.std.proofs.Common.{take}
use Rattle.cb_pairs.specs.Landmarks.{HaveLandmarks}
use Rattle.cb_pairs.proofs.landmarks.landmarks_of.Given as goal

abbrev pub invariant-loop-at : goal.invariant-loop-at
invariant-loop-at l = HaveLandmarks l.width l.rows (take l.at l.codes) l.marks

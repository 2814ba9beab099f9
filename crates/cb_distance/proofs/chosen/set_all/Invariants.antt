use Rattle.std.proofs.Common.{take}
use Rattle.cb_distance.specs.Chosen.{Sets}
use Rattle.cb_distance.proofs.chosen.set_all.Given as goal

abbrev pub invariant-loop-place : goal.invariant-loop-place
invariant-loop-place l = Sets (take l.place-index l.place-items) l.fn.row l.row

use Rattle.std.proofs.Common.{◌≡◌, take}
use Rattle.cb_codes.specs.Marks.{mark_of}
use Rattle.cb_codes.proofs.marks.mark_of_positions.Given as goal

abbrev pub invariant-loop-position : goal.invariant-loop-position
invariant-loop-position l = l.mark ≡ mark_of (take l.position-index l.positions)

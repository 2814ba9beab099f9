use Rattle.std.proofs.Common.{◌≤◌, ◌<◌, ◌-◌, length}
use Rattle.cb_io.proofs.Reported.{HasRead}
use Rattle.cb_io.proofs.whole.read_whole.Given as goal

abbrev pub invariant-loop-piece : goal.invariant-loop-piece
invariant-loop-piece g l =
    (length l.all.items ≤ l.most)
    × (0 < length l.piece.items)
    × HasRead (g.F.Files.tells l.fn.files) (g.F.Files.tells l.files) l.name l.all.items

abbrev pub decreases-loop-piece : goal.decreases-loop-piece
decreases-loop-piece g l = l.most - length l.all.items

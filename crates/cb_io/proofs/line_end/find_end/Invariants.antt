use Rattle.std.proofs.Common.{◌≡◌, ◌⊎◌, ◌+◌, ◌-◌, length}
use Rattle.cb_io.specs.LineReading.{IsOneLine}
use Rattle.cb_io.proofs.LineSearchLemmas.{Sought}
use Rattle.cb_io.proofs.line_end.find_end.Given as goal

abbrev pub invariant-reads : goal.invariant-reads
invariant-reads g l =
    Sought l.fn.hand.kept (g.F.Files.tells l.fn.files) (g.F.Files.tells l.files) l.name l.line_most l.capacity l.fn.hand.size l.hand l.lost l.searched
    × (IsOneLine l.fn.hand.kept ⊎ (l.files ≡ l.fn.files))

abbrev pub decreases-reads : goal.decreases-reads
decreases-reads g l = l.capacity + 1 - (l.lost + length l.hand.kept)

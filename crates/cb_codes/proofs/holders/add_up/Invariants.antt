use Rattle.std.proofs.Common.{List, Bool, length}
use Rattle.cb_codes.specs.Holders.{AreCounted}
use Rattle.cb_codes.proofs.ByColumn.{AreAddedUp}
use Rattle.cb_codes.proofs.holders.add_up.Given as goal

abbrev pub invariant-loop-next : goal.invariant-loop-next
invariant-loop-next l = (codes : List (List Bool)) → AreCounted codes (length codes) l.fn.counts → AreAddedUp codes l.next l.total l.counts

use Rattle.std.proofs.Common.{◌≡◌, length}
use Rattle.cb_checker.specs.Missing.{AreClosedTo}
use Rattle.cb_checker.proofs.closed.check_closed.Given as goal

abbrev pub invariant-loop-place : goal.invariant-loop-place
invariant-loop-place g l = record {
  same : l.graph ≡ l.initial.graph;
  placed : l.marks.placed ≡ l.initial.marks.placed;
  listed : l.marks.listed ≡ l.initial.marks.listed;
  spare : length l.marks.found ≡ length l.initial.marks.found;
  closed : AreClosedTo l.initial.graph l.initial.marks.placed.items l.initial.marks.listed l.place;
}

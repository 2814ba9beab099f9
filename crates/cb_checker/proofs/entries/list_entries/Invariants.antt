use Rattle.std.proofs.Common.{◌≡◌, length}
use Rattle.cb_checker.specs.Listed.{ArePlaced, AreListed}
use Rattle.cb_checker.specs.Reasons.{AreStated}
use Rattle.cb_checker.proofs.Stating.{PassIfLed}
use Rattle.cb_checker.proofs.entries.list_entries.Given as goal

abbrev pub invariant-loop-place : goal.invariant-loop-place
invariant-loop-place l = record {
  placed : ArePlaced l.ids l.span l.place l.marks.placed.items;
  listed : AreListed l.marks.listed l.marks.placed.items;
  capacity : length l.marks.listed ≡ length l.initial.marks.listed;
  found : l.marks.found ≡ l.initial.marks.found;
  stated : AreStated l.ids l.span l.place l.marks.reasons.items;
  passed : PassIfLed l.ids l.before l.span l.marks.reasons.items l.place;
}

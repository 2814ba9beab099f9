use Rattle.std.proofs.Common.{◌≡◌, take}
use Rattle.cb_validity.specs.Verdicts.{entries_of}
use Rattle.cb_checker.specs.Listed.{AreMarked}
use Rattle.cb_checker.proofs.Grouping.{AreHeldTo}
use Rattle.cb_checker.proofs.Spanning.{SpansPass}
use Rattle.cb_checker.proofs.spans.check_spans.Given as goal

abbrev pub invariant-loop-place : goal.invariant-loop-place
invariant-loop-place g l = record {
  same : l.graph ≡ l.initial.graph;
  marked : AreMarked l.initial.graph l.marks;
  before : l.before ≡ entries_of (take l.place l.spans);
  held : AreHeldTo l.initial.graph l.ids l.problems l.columns l.spans l.place l.grouping;
  passed : SpansPass l.initial.graph l.ids l.problems l.spans l.place;
}

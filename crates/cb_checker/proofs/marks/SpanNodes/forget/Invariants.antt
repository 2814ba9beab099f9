use Rattle.std.proofs.Common.{◌≡◌, length}
use Rattle.cb_checker.proofs.Closing.{IsLeftFrom}
use Rattle.cb_checker.proofs.marks.SpanNodes.forget.Given as goal

abbrev pub invariant-loop-place : goal.invariant-loop-place
invariant-loop-place l = record {
  placed : l.self.placed ≡ l.initial.self.placed;
  left : IsLeftFrom l.initial.self.placed.items (length l.initial.self.listed) l.place l.self.listed;
  found : l.self.found ≡ l.initial.self.found;
}

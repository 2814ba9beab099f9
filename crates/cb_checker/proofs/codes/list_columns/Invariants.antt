use Rattle.cb_checker.proofs.Coding.{AreListedTo}
use Rattle.cb_checker.proofs.codes.list_columns.Given as goal

abbrev pub invariant-loop-place : goal.invariant-loop-place
invariant-loop-place l = AreListedTo l.columns l.placed l.place l.list.items

use Rattle.cb_checker.specs.Firsts.{AreAll}
use Rattle.cb_checker.specs.Columns.{IsColumnAt}
use Rattle.cb_checker.proofs.columns.first_bad_column.Given as goal

abbrev pub invariant-loop-place : goal.invariant-loop-place
invariant-loop-place l = AreAll (IsColumnAt l.topology l.ids l.columns) l.place

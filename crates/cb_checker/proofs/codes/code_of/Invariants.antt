use Rattle.cb_checker.proofs.Coding.{IsCodeBy}
use Rattle.cb_checker.proofs.codes.code_of.Given as goal

abbrev pub invariant-loop-place : goal.invariant-loop-place
invariant-loop-place l = IsCodeBy l.columns l.marks.placed.items l.place l.code

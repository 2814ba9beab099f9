use Rattle.cb_certify.proofs.Adding.{AreHeldSo}
use Rattle.cb_certify.proofs.groups.groups_of.Given as goal

abbrev pub invariant-loop-place : goal.invariant-loop-place
invariant-loop-place l = AreHeldSo l.topology l.columns l.trees.problems l.place l.codes l.least

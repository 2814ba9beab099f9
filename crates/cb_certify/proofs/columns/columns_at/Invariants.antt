use Rattle.std.proofs.Common.{take}
use Rattle.cb_certify.specs.Columns.{AreAt}
use Rattle.cb_certify.proofs.columns.columns_at.Given as goal

abbrev pub invariant-loop-k : goal.invariant-loop-k
invariant-loop-k l = AreAt l.all (take l.k l.places) l.columns

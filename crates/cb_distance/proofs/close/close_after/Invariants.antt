use Rattle.cb_distance.specs.Close.{AreAllFar}
use Rattle.cb_distance.specs.Asked.{need_by}
use Rattle.cb_distance.proofs.close.close_after.Given as goal

abbrev pub invariant-loop-second : goal.invariant-loop-second
invariant-loop-second l = AreAllFar l.codes l.first (need_by l.needs) l.second

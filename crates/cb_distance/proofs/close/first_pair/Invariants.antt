use Rattle.cb_distance.specs.Close.{FarBefore}
use Rattle.cb_distance.specs.Asked.{need_by}
use Rattle.cb_distance.proofs.close.first_pair.Given as goal

abbrev pub invariant-loop-first : goal.invariant-loop-first
invariant-loop-first l = FarBefore l.codes (need_by l.needs) l.first

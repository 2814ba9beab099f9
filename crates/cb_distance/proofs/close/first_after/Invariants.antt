use Rattle.std.proofs.Common.{◌≤◌, ◌-◌, length}
use Rattle.cb_distance.specs.Close.{IsCloseOrEnd}
use Rattle.cb_distance.proofs.After.{AreFarOrDiffer}
use Rattle.cb_distance.specs.Asked.{need_by}
use Rattle.cb_distance.proofs.close.first_after.Given as goal

abbrev pub invariant-loop-looked : goal.invariant-loop-looked
invariant-loop-looked l = record {
  within : l.from ≤ length l.code;
  end : IsCloseOrEnd l.codes l.first (need_by l.needs) l.end;
  rest : AreFarOrDiffer l.codes l.first (need_by l.needs) l.from l.looked l.end;
}

abbrev pub decreases-loop-looked : goal.decreases-loop-looked
decreases-loop-looked l = length l.code - l.from

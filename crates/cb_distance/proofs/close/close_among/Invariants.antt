use Rattle.std.proofs.Common.{◌<◌, ◌≤◌, ℕ, get_or}
use Rattle.cb_distance.specs.Close.{far, IsCloseOrEnd}
use Rattle.cb_distance.specs.Asked.{need_by}
use Rattle.cb_distance.proofs.close.close_among.Given as goal

abbrev pub invariant-loop-place : goal.invariant-loop-place
invariant-loop-place l = record {
  is : IsCloseOrEnd l.codes l.first (need_by l.needs) l.end;
  before : l.end ≤ l.fn.end;
  looks : (k d : ℕ) → k < l.place-index → l.first < get_or l.places k d → get_or l.places k d < l.end
      → need_by l.needs l.first (get_or l.places k d) ≤ far l.codes l.first (get_or l.places k d);
}

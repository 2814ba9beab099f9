use Rattle.std.proofs.Common.{[], ◌≡◌, ◌<◌, ℕ, length}
use Rattle.cb_reduce.specs.Pairs.{MustWait}
use Rattle.cb_reduce.specs.Moves.{Grows, IsCovered}
use Rattle.cb_coding.specs.Needs.{need_of}
use Rattle.cb_reduce.specs.Forced.{Forces}
use Rattle.cb_reduce.specs.Places.{kept_of}
use Rattle.cb_reduce.proofs.waiting.wait_each.Given as goal

abbrev pub invariant-loop-second : goal.invariant-loop-second
invariant-loop-second l = record {
  wide : length l.forced ≡ l.width;
  long : length l.marked ≡ length l.codes.rows;
  forces : Forces l.codes.width l.codes.rows (need_of l.codes.width l.codes.rows l.wish) l.fn.forced l.forced;
  grows : Grows l.codes.rows l.fn.waiting.items l.waiting.items;
  held : (j : ℕ) → j < l.second → (i : ℕ) → i < j → MustWait l.quiet l.codes.rows i j
      → IsCovered l.codes.rows (kept_of l.forced) [] (need_of l.codes.width l.codes.rows l.wish i j) l.waiting.items l.width i j;
}

use Rattle.std.proofs.Common.{◌≡◌, ◌<◌, ◌≤◌, ◌-◌, ◌*◌, ◌++◌, ℕ, length, replicate, vec_capacity}
use Rattle.cb_pool.specs.Pool.{row_at}
use Rattle.cb_pool.proofs.block.widened.Given as goal

-- the rows so far have zeros after them, and there is capacity for the others
abbrev pub invariant-loop-i : goal.invariant-loop-i
invariant-loop-i l = record {
  block : length l.made.items ≡ l.wider * l.i;
  capacity : l.wider * l.capacity ≤ vec_capacity l.made;
  rows : (j : ℕ) → j < l.i → row_at l.wider l.made.items j ≡ row_at l.width l.words j ++ replicate (l.wider - l.width) 0;
}

use Rattle.std.specs.Prelude.{◌≡◌, ◌+◌, ◌≤◌, length, vec_capacity}
use Rattle.cb_cache.proofs.Stale.{BackUpTo}
use Rattle.cb_cache.proofs.cut.take_back.Given as goal

abbrev pub invariant-loop-place : goal.invariant-loop-place
invariant-loop-place l = record {
  back : BackUpTo l.topology l.touched l.place l.fn.rows.slots.items l.fn.rows.pool l.rows.slots.items l.rows.pool l.problems.items;
  length_is : length l.rows.slots.items ≡ length l.fn.rows.slots.items;
  width : l.rows.pool.width ≡ l.fn.rows.pool.width;
  spare : length l.problems.items + l.fn.rows.pool.spare ≤ l.rows.pool.spare;
  few : length l.problems.items ≤ l.place;
  scratch : l.rows.scratch ≡ l.fn.rows.scratch;
  listed : vec_capacity l.problems ≡ vec_capacity l.fn.problems;
}

use Rattle.std.specs.Prelude.{◌≡◌, vec_capacity}
use Rattle.std.specs.List.Sorted.{IsPermutation}
use Rattle.cb_cache.proofs.order.scatter.Given as goal

abbrev pub invariant-loop-place : goal.invariant-loop-place
invariant-loop-place g l = record {
  items : IsPermutation l.fn.items.items l.items.items;
  capacity : vec_capacity l.items ≡ vec_capacity l.fn.items;
}

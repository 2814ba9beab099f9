use Rattle.std.specs.Prelude.{◌≡◌, vec_capacity}
use Rattle.cb_cache.proofs.Gathered.{AreBelow}
use Rattle.cb_cache.proofs.problems.push_problems.Given as goal

abbrev pub invariant-loop-place : goal.invariant-loop-place
invariant-loop-place l = AreBelow l.topology l.place l.list.items × (vec_capacity l.list ≡ vec_capacity l.fn.list)

use Rattle.std.specs.Prelude.{◌≡◌, List, length}
use Rattle.cb_nodes.specs.declared.id.NodeId.{NodeId}
use Rattle.cb_cache.proofs.Gathered.{AreBelow}
use Rattle.cb_cache.proofs.problems.problem_count.Given as goal

abbrev pub invariant-loop-place : goal.invariant-loop-place
invariant-loop-place l = (ids : List NodeId) × AreBelow l.topology l.place ids × (l.count ≡ length ids)

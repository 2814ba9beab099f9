use Rattle.std.proofs.Common.{◌+◌, ◌-◌, vec_len}
use Rattle.cb_nodes.specs.Kept.{SameLists}
use Rattle.cb_nodes.proofs.lists.grow.Given as goal

abbrev pub invariant-loop-alloc : goal.invariant-loop-alloc
invariant-loop-alloc l = SameLists l.initial.lists.items l.lists.items

abbrev pub decreases-loop-alloc : goal.decreases-loop-alloc
decreases-loop-alloc l = l.instance.0 + 1 - vec_len l.lists

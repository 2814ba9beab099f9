use Rattle.std.proofs.Common.{◌-◌, ◌<◌, length}
use Rattle.cb_explain.specs.Checking.{AreListedNodes, HaveParents}
use Rattle.cb_explain.proofs.entries.list_entries.Given as goal

abbrev pub invariant-loop-listed : goal.invariant-loop-listed
invariant-loop-listed l = record {
  listed : AreListedNodes l.topology l.levels l.listed;
  parents : HaveParents l.levels (length l.listed.nodes.items);
  some : 0 < length l.listed.nodes.items;
}

abbrev pub decreases-loop-listed : goal.decreases-loop-listed
decreases-loop-listed l = length l.levels.entries - length l.listed.nodes.items

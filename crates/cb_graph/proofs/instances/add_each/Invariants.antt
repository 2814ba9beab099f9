use Rattle.std.proofs.Common.{take, vec_capacity, length, ◌≤◌}
use Rattle.cb_graph.specs.Instances.{IsListed, IsPrefix, IsNumber}
use Rattle.cb_graph.proofs.Gaining.{HasGained}
use Rattle.cb_graph.proofs.instances.add_each.Given as goal

abbrev pub invariant-loop-id : goal.invariant-loop-id
invariant-loop-id l = record {
  listed : IsListed l.list.items l.row;
  capacity : length l.row ≤ vec_capacity l.list;
  gained : HasGained IsNumber l.fn.row l.row (take l.id-index l.ids);
  prefix : IsPrefix l.fn.list.items l.list.items;
}

use Rattle.std.specs.Prelude.{◌≡◌, ◌≤◌, ◌↔◌, length, take, vec_capacity}
use Rattle.std.specs.List.{Contains}
use Rattle.cb_nodes.specs.declared.id.NodeId.{NodeId}
use Rattle.cb_cache.specs.Created.{IsProblemAmong}
use Rattle.cb_cache.specs.Numbers.{AreOnce}
use Rattle.cb_cache.proofs.create.list_problems_among.Given as goal

abbrev pub invariant-loop-event : goal.invariant-loop-event
invariant-loop-event l = record {
  problems : (id : NodeId) → Contains l.list.items id ↔ IsProblemAmong l.topology l.instance (take l.event-index l.events) id;
  once : AreOnce l.list.items;
  few : length l.list.items ≤ l.event-index;
  capacity : vec_capacity l.list ≡ vec_capacity l.fn.list;
}

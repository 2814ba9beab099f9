use Rattle.std.proofs.Common.{◌≡◌, ◌+◌, vec_len, vec_capacity, take}
use Rattle.cb_nodes.specs.Kept.{NumbersEvents}
use Rattle.cb_nodes.proofs.lists.number_events.Given as goal

abbrev pub invariant-loop-event : goal.invariant-loop-event
invariant-loop-event l = record {
  all : NumbersEvents l.initial.numbers l.numbers l.instance l.list.items (take l.event-index l.events);
  len : vec_len l.list ≡ vec_len l.initial.list + l.event-index;
  capacity : vec_capacity l.list ≡ vec_capacity l.initial.list;
}

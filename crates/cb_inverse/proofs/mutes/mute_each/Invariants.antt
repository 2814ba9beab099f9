use Rattle.std.proofs.Common.{take}
use Rattle.cb_instances.specs.Net.{name_at}
use Rattle.cb_topo.specs.Numbered.{topology_of}
use Rattle.cb_inverse.specs.Listed.{AreMuteEdits}
use Rattle.cb_inverse.proofs.mutes.mute_each.Given as goal

abbrev pub invariant-loop-event : goal.invariant-loop-event
invariant-loop-event l = AreMuteEdits (topology_of l.topology) (name_at l.topology.net l.id) (take l.event-index l.events) l.edits.items

use Rattle.std.proofs.Common.{take}
use Rattle.cb_instances.specs.Net.{name_at}
use Rattle.cb_topo.specs.Numbered.{topology_of}
use Rattle.cb_inverse.specs.Listed.{AreLinkEdits, IsBeforeOrAmong}
use Rattle.cb_inverse.proofs.links.add_links.Given as goal

abbrev pub invariant-loop-to : goal.invariant-loop-to
invariant-loop-to l = AreLinkEdits (topology_of l.topology) (name_at l.topology.net l.id) (IsBeforeOrAmong l.topology.net l.rel (take l.to-index l.ids)) l.edits.items

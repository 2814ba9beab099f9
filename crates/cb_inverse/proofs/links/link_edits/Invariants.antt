use Rattle.cb_instances.specs.Net.{name_at}
use Rattle.cb_topo.specs.Numbered.{topology_of}
use Rattle.cb_inverse.specs.Listed.{AreLinkEdits, IsBeforePosition}
use Rattle.cb_inverse.proofs.links.link_edits.Given as goal

abbrev pub invariant-loop-position : goal.invariant-loop-position
invariant-loop-position l = AreLinkEdits (topology_of l.topology) (name_at l.topology.net l.id) (IsBeforePosition l.position) l.edits.items

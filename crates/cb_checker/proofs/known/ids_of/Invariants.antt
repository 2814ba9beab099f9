use Rattle.cb_topo.specs.Numbered.{IsNodeNamed}
use Rattle.cb_checker.proofs.Naming.{Zipped}
use Rattle.cb_checker.proofs.known.ids_of.Given as goal

abbrev pub invariant-loop-place : goal.invariant-loop-place
invariant-loop-place l = Zipped (IsNodeNamed l.topology) l.place l.ids.items l.nodes

use Rattle.std.proofs.Common.{take}
use Rattle.cb_topo.specs.Numbered.{topology_of}
use Rattle.cb_session.specs.Stated.{ArePlacesFor}
use Rattle.cb_session.proofs.stated.places_of.Given as goal

abbrev pub invariant-loop-k : goal.invariant-loop-k
invariant-loop-k l = ArePlacesFor (topology_of l.topology) l.nodes (take l.k l.numbers) l.places

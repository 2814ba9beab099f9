use Rattle.std.proofs.Common.{[], subst}
use Rattle.cb_topo.specs.Numbered.{topology_of}
use Rattle.cb_inverse.specs.declared.inverse.Inverse.TheVariants.{Reverse}
use Rattle.cb_undo.specs.Kept.{IsInverseOf}
use Rattle.cb_undo.proofs.Making.{can_first, inverse_can, rebuild_undoes}
use Rattle.cb_undo.proofs.make.make_inverse.Goals as goal

pub make-requires-clause-accepted : goal.make-requires-clause-accepted
make-requires-clause-accepted g c =
    let t = topology_of (g.N.EditedTopology.numbered c.args.network.now) in
    let is = subst (IsInverseOf c.requires.0 t) c.in-Reverse.is c.requires.1 in
    (can_first t c.in-Reverse.edit [] (inverse_can c.requires.0 t (Reverse c.in-Reverse.edit) is)).0

pub make_rebuild-requires : goal.make_rebuild-requires
make_rebuild-requires g c =
    let t = topology_of (g.N.EditedTopology.numbered c.args.network.now) in
    let is = subst (IsInverseOf c.requires.0 t) c.in-Rebuild.is c.requires.1 in
    (c.requires.0, rebuild_undoes c.requires.0 t c.in-Rebuild.edits is)

use Rattle.std.proofs.Common.{◌≡◌, subst}
use Rattle.cb_accept.specs.declared.numbered.NumberedEdit.TheVariants as numbered
use Rattle.cb_accept.specs.NumberedEdits.{IsNumberedEdit}
use Rattle.cb_topo.proofs.Numbering.{numbered_delete}
use Rattle.cb_inverse.proofs.inverse.inverse_of.Goals as goal

pub rebuild_of-requires : goal.rebuild_of-requires
rebuild_of-requires c =
    let n = c.args.topology.now.net in
    let same : c.args.accepted.now.numbered ≡ numbered.Delete c.in-Delete.id = cc in
    (numbered_delete n c.args.accepted.now.edit.now c.in-Delete.id (subst (IsNumberedEdit n c.args.accepted.now.edit.now) same c.requires.by_numbers)).0

use Rattle.std.proofs.Common.{List, sym, subst}
use Rattle.cb_nodes.specs.declared.id.NodeId.{NodeId}
use Rattle.cb_topo.specs.Numbered.{AreNamed, IsNodeNamed}
use Rattle.cb_validity.proofs.Passing.{zip_lengths}
use Rattle.cb_session.proofs.Following.{if_ok_more}
use Rattle.cb_session.proofs.basis.Ready.finding.Goals as goal

pub found_for-requires : goal.found_for-requires
found_for-requires c = (c.args.topology.now, c.requires.ready)

pub returns : goal.returns
returns c =
    let n = c.args.topology.now in
    let ids = c.args.self.now.matrix.columns in
    if_ok_more c.found_for.result _ _ (λ finding found. λ columns named.
    found columns c.args.raised.now (c.in_ok-word.ensures columns (subst (λ (xs : List NodeId). AreNamed n xs columns) (sym c.columns.ensures) named))
    (sym (zip_lengths (IsNodeNamed n) ids columns named))) c.found_for.ensures

use Rattle.std.proofs.Common.{List, sym, subst}
use Rattle.std.proofs.lemmas.Result.{IfOk-weaker}
use Rattle.cb_nodes.specs.declared.id.NodeId.{NodeId}
use Rattle.cb_topo.specs.Numbered.{Numbered, AreNamed}
use Rattle.cb_burst.proofs.Naming.{columns_named}
use Rattle.cb_burst.proofs.searched.SearchedNetwork.raised_word.Goals as goal

pub returns : goal.returns
returns c =
    let n = c.args.self.now.network in
    let matrix = c.matrix.result.now in
    IfOk-weaker c.of.result _ _ (λ word is. λ columns are.
    is columns (subst (λ (m : Numbered). AreNamed m c.columns.result.now columns) (sym c.topology.ensures)
    (subst (λ (ids : List NodeId). AreNamed n ids columns) (sym c.columns.ensures) (columns_named n matrix c.matrix.ensures.small.is columns are)))) c.of.ensures

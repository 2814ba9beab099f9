use Rattle.std.proofs.Common.{List, sym, subst, ◌∙◌}
use Rattle.std.specs.List.{All}
use Rattle.cb_nodes.specs.declared.id.NodeId.{NodeId}
use Rattle.cb_topo.specs.Numbered.{Numbered, IsLiveNode}
use Rattle.cb_matrix.proofs.Matched.{all_live}
use Rattle.cb_burst.proofs.searched.SearchedNetwork.column_names.Goals as goal

pub names_of-requires : goal.names_of-requires
names_of-requires c =
    let n = c.args.self.now.network in
    let is = c.matrix.ensures.small.is in
    subst (λ (m : Numbered). All (IsLiveNode m) c.nodes.result.now) (sym c.topology.ensures)
    (subst (λ (ids : List NodeId). All (IsLiveNode n) ids) (sym (c.nodes.ensures ∙ c.columns.ensures))
    (all_live n c.matrix.result.now.columns is.columns is.columns_named))

use Rattle.std.proofs.Common.{ℕ, length, refl, sym, subst, ◌∙◌, arith}
use Rattle.std.proofs.lemmas.Option.{same_Some, slice_get_read}
use Rattle.cb_graph.specs.Edges.{number}
use Rattle.cb_topo.specs.Columns.{IsPositionOf}
use Rattle.cb_matrix.proofs.visited.place_of.Goals as goal

pub index-requires : goal.index-requires
index-requires c = let long = c.args.order.now.nodes.ok.0 in let low = c.requires in omega (arith, long, low)

pub returns : goal.returns
returns c = λ node at.
    let nodes = c.args.order.now.nodes.items in
    let read = slice_get_read nodes (length nodes) c.args.visit.node c.index.result.now refl c.requires c.index.ensures in
    subst (λ (k : ℕ). IsPositionOf c.args.columns.now (number k) c.position.result) (same_Some c.index.result.now node (sym read ∙ at)) c.position.ensures

use Rattle.std.proofs.Common.{◌∙◌, subst}
use Rattle.cb_topo.specs.Columns.{AreAllColumns}
use Rattle.cb_topo.specs.Numbered.{Numbered}
use Rattle.cb_matrix.proofs.matrix.Matrix.of.Goals as goal

pub over-requires : goal.over-requires
over-requires c = subst (λ (n : Numbered). AreAllColumns n c.in_ok-columns.columns) (c.topology.ensures ∙ c.graph.ensures) c.in_ok-columns.ensures.columns

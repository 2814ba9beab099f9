use Rattle.std.proofs.Common.{IfOk, sym, subst}
use Rattle.cb_model.specs.declared.wish.Wish.TheVariants.{Plain}
use Rattle.cb_validity.specs.Totals.{HasManyEntries}
use Rattle.cb_topo.specs.Numbered.{Numbered, topology_of}
use Rattle.cb_matrix.specs.Matrix.{IsMatrixOf}
use Rattle.cb_certify.specs.Made.{IsMadeOf}
use Rattle.cb_certify.proofs.codebook.by_searches.Goals as goal

pub of_matrix-requires-clause-many : goal.of_matrix-requires-clause-many
of_matrix-requires-clause-many g c =
    subst (λ (n : Numbered). HasManyEntries (topology_of n)) (sym c.search.ensures.same) c.requires.many

pub of_matrix-requires-clause-matrix : goal.of_matrix-requires-clause-matrix
of_matrix-requires-clause-matrix g c =
    subst (λ (n : Numbered). IsMatrixOf n c.in-Ok.matrix) (sym c.search.ensures.same) c.in-Ok.ensures.matrix

pub returns-in-Ok : goal.returns-in-Ok
returns-in-Ok g c =
    subst (λ (n : Numbered). IfOk c.of_matrix.result (IsMadeOf (topology_of n) (Plain c.args.wanted))) c.search.ensures.same c.of_matrix.ensures

use Rattle.std.proofs.Common.{ap, length, subst, arith}
use Rattle.cb_topo.specs.Columns.{AreAllColumns}
use Rattle.cb_topo.specs.Numbered.{Numbered}
use Rattle.cb_matrix.proofs.Held.{have_places, is_matrix_of}
use Rattle.cb_matrix.proofs.matrix.Matrix.search.Goals as goal

pub search-requires : goal.search-requires
search-requires g c = subst (λ (n : Numbered). AreAllColumns n c.in_ok-columns.columns) c.topology.ensures c.in_ok-columns.ensures.columns

pub matrix_of-requires-clause-places : goal.matrix_of-requires-clause-places
matrix_of-requires-clause-places g c = have_places c.args.graph.now c.in_ok-columns.columns c.in_ok-grouped.grouped c.in_ok-grouped.ensures.problems

pub returns-clause-matrix : goal.returns-clause-matrix
returns-clause-matrix g c =
    let made = c.matrix_of.ensures in
    rw (made.columns, made.problems, made.codes, made.groups) (is_matrix_of c.args.graph.now c.in_ok-columns.columns c.in_ok-grouped.grouped c.in_ok-grouped.ensures.problems)

pub returns-clause-few_columns : goal.returns-clause-few_columns
returns-clause-few_columns g c = rw c.matrix_of.ensures.columns c.in_ok-grouped.ensures.problems.few_columns

pub returns-clause-few_groups : goal.returns-clause-few_groups
returns-clause-few_groups g c =
    let few = c.in_ok-grouped.ensures.problems.few_groups in
    let within = c.in_ok-grouped.ensures.problems.few_problems in
    let same = ap length c.matrix_of.ensures.groups in
    omega arith

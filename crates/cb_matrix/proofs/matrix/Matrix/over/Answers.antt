use Rattle.std.proofs.Common.{ap, length, arith}
use Rattle.cb_matrix.proofs.Held.{have_places, is_matrix_of}
use Rattle.cb_matrix.proofs.matrix.Matrix.over.Goals as goal

pub matrix_of-requires-clause-places : goal.matrix_of-requires-clause-places
matrix_of-requires-clause-places c = have_places c.args.cache.now.graph c.args.columns c.in_ok-grouped.grouped c.in_ok-grouped.ensures

pub returns-clause-matrix : goal.returns-clause-matrix
returns-clause-matrix c =
    let made = c.matrix_of.ensures in
    rw (made.columns, made.problems, made.codes, made.groups) (is_matrix_of c.args.cache.now.graph c.args.columns c.in_ok-grouped.grouped c.in_ok-grouped.ensures)

pub returns-clause-few_columns : goal.returns-clause-few_columns
returns-clause-few_columns c = rw c.matrix_of.ensures.columns c.in_ok-grouped.ensures.few_columns

pub returns-clause-few_groups : goal.returns-clause-few_groups
returns-clause-few_groups c =
    let few = c.in_ok-grouped.ensures.few_groups in
    let within = c.in_ok-grouped.ensures.few_problems in
    let same = ap length c.matrix_of.ensures.groups in
    omega arith

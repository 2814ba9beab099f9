use Rattle.std.proofs.Common.{ap, arith, length}
use Rattle.std.proofs.lemmas.List.FromFn.{length-range_with_len}
use Rattle.std.proofs.lemmas.Result.{IfOk-weaker}
use Rattle.cb_burst.proofs.Naming.{as_many_names}
use Rattle.cb_burst.proofs.searched.SearchedNetwork.find.Goals as goal

pub find-requires-clause-narrow : goal.find-requires-clause-narrow
find-requires-clause-narrow c =
    let few = c.matrix-matrix.ensures.small.few_columns in
    let same = ap length c.in_ok-book.ensures.columns in
    let all = length-range_with_len 0 c.codes.result.now.width in
    let wide = c.codes.ensures.width in
    omega arith

pub returns : goal.returns
returns c =
    let matrix = c.matrix-matrix.result.now in
    let is = c.matrix-matrix.ensures.small.is in
    let size = as_many_names c.args.self.now.network matrix is is.columns is.columns_named in
    let least = c.in_ok-book.ensures.distance in
    let said = c.in_ok-word.ensures is.columns is.is.columns_are in
    IfOk-weaker c.find.result _ _ (λ finding finds.
    let found = finds is.columns c.args.raised.now said in
    record {
      columns = is.columns;
      groups = matrix.groups;
      matrix = is.is;
      least = least.0;
      least_is = rw (c.codes.ensures.rows, c.codes.ensures.width, size) at least.1;
      found = rw (c.coded_groups.ensures.groups, c.in_ok-book.ensures.columns, c.codes.ensures.width, size, least.2) at found;
    }) c.find.ensures

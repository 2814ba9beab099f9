use Rattle.std.proofs.Common.{◌≡◌, length, ◌∙◌, arith}
use Rattle.cb_validity.proofs.Passing.{zip_lengths}
use Rattle.cb_certify.proofs.codebook.of_matrix.Goals as goal

pub by_groups-made-requires-clause-groups : goal.by_groups-made-requires-clause-groups
by_groups-made-requires-clause-groups g c =
    let is = c.requires.matrix in
    let size = zip_lengths _ c.args.matrix.columns is.columns is.columns_named in
    record {
      columns = is.columns;
      matrix = rw c.coded_groups.ensures.groups is.is;
      wide = c.coded_groups.ensures.width ∙ size;
      few_columns = (let few = c.requires.few_columns in omega (arith, few, size));
      few_groups = rw c.coded_groups.ensures.groups c.requires.few_groups;
    }

use Rattle.std.proofs.Common.{◌∙◌, arith}
use Rattle.cb_burst.proofs.Naming.{as_many_names, named_matrix}
use Rattle.cb_burst.proofs.searched.SearchedNetwork.into_named.Goals as goal

pub returns-in-Ok-clause-matrix : goal.returns-in-Ok-clause-matrix
returns-in-Ok-clause-matrix c =
    let groups = c.into_groups-groups in
    named_matrix c.args.self.network c.args.self.matrix groups.ensures.small.is c.in-Ok.columns c.in-Ok.ensures groups.result.groups groups.ensures.groups

pub returns-in-Ok-clause-width : goal.returns-in-Ok-clause-width
returns-in-Ok-clause-width c =
    let groups = c.into_groups-groups.ensures in
    groups.width ∙ as_many_names c.args.self.network c.args.self.matrix groups.small.is c.in-Ok.columns c.in-Ok.ensures

pub returns-in-Ok-clause-few_columns : goal.returns-in-Ok-clause-few_columns
returns-in-Ok-clause-few_columns c =
    let small = c.into_groups-groups.ensures.small in
    let few = small.few_columns in
    let size = as_many_names c.args.self.network c.args.self.matrix small.is c.in-Ok.columns c.in-Ok.ensures in
    omega (arith, few, size)

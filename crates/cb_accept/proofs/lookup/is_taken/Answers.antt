use Rattle.std.proofs.Common.{◌≡◌, subst, ◌∙◌, Some}
use Rattle.std.specs.List.{slice_get}
use Rattle.cb_model.specs.declared.tables.Tables.{Tables}
use Rattle.cb_accept.proofs.Looked.{taken_is}
use Rattle.cb_accept.proofs.lookup.is_taken.Goals as goal

pub returns-then-not-row : goal.returns-then-not-row
returns-then-not-row c =
    let row = subst (λ (m : Tables). slice_get m.relations c.args.rel.0 ≡ Some c.at-row.result.now) (c.tables.ensures.value ∙ c.model.ensures.value) c.at-row.ensures in
    taken_is c.args.net.now c.args.id c.model.ensures.whole c.args.rel c.at-row.result.now row c.if-not-row.true c.links.result.now c.links.ensures.exactly c.is_empty.result c.is_empty.ensures

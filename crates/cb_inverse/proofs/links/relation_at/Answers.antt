use Rattle.std.proofs.Common.{◌<◌, length, sym, subst, ◌∙◌}
use Rattle.cb_model.specs.declared.tables.Tables.{Tables}
use Rattle.cb_model.specs.WellTyped.{WellTyped}
use Rattle.cb_inverse.proofs.Linking.{inverse_within, inverse_of_inverse}
use Rattle.cb_inverse.proofs.links.relation_at.Goals as goal

pub at-row-requires : goal.at-row-requires
at-row-requires c = subst (λ (m : Tables). c.args.position < length m.relations) (sym (c.tables-tables.ensures.value ∙ c.model.ensures.value)) c.requires

pub at-requires : goal.at-requires
at-requires c =
    let tables = c.tables-tables.result.now in
    let typed = subst WellTyped (sym (c.tables-tables.ensures.value ∙ c.model.ensures.value)) c.model.ensures.typed in
    inverse_within tables typed c.args.position c.at-row.result.now c.at-row.ensures

pub returns : goal.returns
returns c =
    let tables = c.tables-tables.result.now in
    let typed = subst WellTyped (sym (c.tables-tables.ensures.value ∙ c.model.ensures.value)) c.model.ensures.typed in
    inverse_of_inverse tables typed c.args.position c.at-row.result.now c.at-row.ensures c.at.result.now c.at.ensures

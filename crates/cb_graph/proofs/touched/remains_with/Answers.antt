use Rattle.std.proofs.Common.{sym, subst}
use Rattle.cb_model.specs.declared.tables.Tables.{Tables}
use Rattle.cb_model.specs.WellTyped.{IsClass}
use Rattle.cb_graph.proofs.touched.remains_with.Goals as goal

pub has_rule-requires-clause-class : goal.has_rule-requires-clause-class
has_rule-requires-clause-class c = subst (λ (t : Tables). IsClass t c.class_of.result) (sym c.model.ensures.value) c.class_of.ensures.class

use Rattle.std.proofs.Common.{◌≡◌, ◌↔◌, subst, sym, ◌∙◌, Some, IsTrue}
use Rattle.std.specs.List.{slice_get}
use Rattle.cb_model.specs.Classes.{IsA}
use Rattle.cb_model.specs.WellTyped.{IsClass}
use Rattle.cb_model.specs.declared.tables.Tables.{Tables}
use Rattle.cb_accept.proofs.Looked.{lacks_kind, kind_is, target_is_class}
use Rattle.cb_accept.proofs.lookup.is_of_kind.Goals as goal

pub returns-in-None : goal.returns-in-None
returns-in-None c = λ b named. (
  λ no. absurd (cc),
  λ fits. absurd (lacks_kind c.args.net.now c.args.id c.class_at.ensures.typed c.in-None.ensures.absent b named c.args.rel fits),
)

pub is_a-requires-clause-ancestor : goal.is_a-requires-clause-ancestor
is_a-requires-clause-ancestor c =
    let row = subst (λ (m : Tables). slice_get m.relations c.args.rel.0 ≡ Some c.at.result.now) (c.tables.ensures.value ∙ c.model.ensures.value) c.at.ensures in
    let within = target_is_class c.args.net.now.topology.model c.class_at.ensures.typed c.args.rel c.at.result.now row in
    subst (λ (m : Tables). IsClass m c.at.result.now.target) (sym c.model-in-Some.ensures.value) within

pub returns-in-Some : goal.returns-in-Some
returns-in-Some c =
    let row = subst (λ (m : Tables). slice_get m.relations c.args.rel.0 ≡ Some c.at.result.now) (c.tables.ensures.value ∙ c.model.ensures.value) c.at.ensures in
    let tells = subst (λ (m : Tables). IsTrue c.is_a.result ↔ IsA m c.in-Some.class c.at.result.now.target) c.model-in-Some.ensures.value c.is_a.ensures in
    kind_is c.args.net.now c.args.id c.in-Some.class c.in-Some.ensures.found c.args.rel c.at.result.now row c.is_a.result tells

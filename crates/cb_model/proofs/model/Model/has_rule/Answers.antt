use Rattle.std.proofs.Common.{◌≡◌, Some, refl, sym, subst, ◌∙◌, arith}
use Rattle.std.specs.Prelude.{◌↔◌, IsTrue, slice_get}
use Rattle.std.specs.FinMap.{nat_cmp-IsAntisymmetric}
use Rattle.std.proofs.lemmas.Bool.{both_ways, false≢true}
use Rattle.std.proofs.lemmas.Cmp.{nat_cmp_total}
use Rattle.std.proofs.lemmas.Map.Views.{btree_set_contains_iff}
use Rattle.cb_model.specs.declared.tables.Tables.{Tables}
use Rattle.cb_model.specs.WellTyped.{WellTyped}
use Rattle.cb_model.specs.Sealed.{AreViewsOf, IsBlockedFrom}
use Rattle.cb_model.proofs.Marking.{lacks_rule, rule_is}
use Rattle.cb_model.proofs.Numbers.{read_at}
use Rattle.cb_model.proofs.model.Model.has_rule.Goals as goal

pub returns-then-not-is_a : goal.returns-then-not-is_a
returns-then-not-is_a c =
    let row = c.at.result.now in
    let typed = subst WellTyped c.self.view_is c.self.invariant.typed in
    let is = subst (λ (t : Tables). slice_get t.rules c.args.rule ≡ Some row) c.self.view_is c.at.ensures in
    (λ no. absurd (false≢true no), λ has. absurd (lacks_rule c.args.self.now typed c.args.class c.args.rule row is (λ up. both_ways _ c.if-not-is_a.true (c.is_a.ensures.1 up)) has))

pub returns : goal.returns
returns c =
    let t = c.args.self.now in
    let row = c.at.result.now in
    let typed = subst WellTyped c.self.view_is c.self.invariant.typed in
    let is = subst (λ (t : Tables). slice_get t.rules c.args.rule ≡ Some row) c.self.view_is c.at.ensures in
    let views = c.self.inside.views.items in
    let are = subst (λ (t : Tables). AreViewsOf t views) c.self.view_is c.self.invariant.views_are in
    let view = c.index.result.now in
    let view_is = read_at views views c.args.class.0 view refl (omega (arith, are.all, c.requires.class)) c.index.ensures in
    let set = btree_set_contains_iff nat_cmp_total nat_cmp-IsAntisymmetric view.blocked c.args.rule in
    let blocked = (are.each c.args.class view view_is).blocked c.args.rule in
    let reported : IsTrue c.contains.result ↔ IsBlockedFrom t c.args.class c.args.rule = (
      λ yes. blocked.0 (set.0 (sym c.contains.ensures ∙ yes)),
      λ blocks. c.contains.ensures ∙ set.1 (blocked.1 blocks),
    ) in
    rule_is t typed c.args.class c.args.rule row is (c.is_a.ensures.0 c.if-not-is_a.false) c.contains.result reported

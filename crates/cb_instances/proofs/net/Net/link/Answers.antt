use Rattle.std.proofs.Common.{sym, subst, ◌∙◌, ap}
use Rattle.cb_model.specs.WellTyped.{IsRelation}
use Rattle.cb_instances.specs.Net.{Net, linked}
use Rattle.cb_instances.specs.Shown.{seen, next_of}
use Rattle.cb_instances.proofs.Linking.{joined_sound, joined_net, same_sound, same_net}
use Rattle.cb_instances.proofs.Reading.{live_at, not_listed}
use Rattle.cb_instances.proofs.RowLemmas.{on_err}
use Rattle.cb_instances.proofs.net.Net.link.Goals as goal

pub inverse-back-requires : goal.inverse-back-requires
inverse-back-requires c = subst (λ (n : Net). IsRelation n.topology.model c.args.rel) (sym c.self.view_is) c.requires.rel

pub join-requires-clause-from : goal.join-requires-clause-from
join-requires-clause-from c = let from = live_at _ _ _ _ _ c.self.view_is c.args.from c.requires.from in (from.1.0, from.1.1)

pub join-requires-clause-to : goal.join-requires-clause-to
join-requires-clause-to c = let to = live_at _ _ _ _ _ c.self.view_is c.args.to c.requires.to in (to.1.0, to.1.1)

pub invariant_of-self : goal.invariant_of-self
invariant_of-self c = same_sound _ _ c.in_err-join.ensures.err c.self.inside.model _ _ c.self.invariant

pub invariant_of-self-2 : goal.invariant_of-self-2
invariant_of-self-2 c =
    let from = live_at _ _ _ _ _ c.self.view_is c.args.from c.requires.from in
    let to = live_at _ _ _ _ _ c.self.view_is c.args.to c.requires.to in
    let rel = subst (λ (n : Net). IsRelation n.topology.model c.args.rel) (sym c.self.view_is) c.requires.rel in
    let back = c.inverse-back.ensures in
    let none = not_listed _ _ _ _ c.self.invariant _ _ c.self.view_is c.args.from c.args.rel c.args.to c.requires.absent in
    joined_sound c.self.inside.model _ _ _ _ _ _ _ _ from.0 to.0 from.1 to.1 rel back c.self.invariant c.in_ok-join.ensures.ok none

pub returns-clause-ok : goal.returns-clause-ok
returns-clause-ok c =
    let from = live_at _ _ _ _ _ c.self.view_is c.args.from c.requires.from in
    let to = live_at _ _ _ _ _ c.self.view_is c.args.to c.requires.to in
    let rel = subst (λ (n : Net). IsRelation n.topology.model c.args.rel) (sym c.self.view_is) c.requires.rel in
    let back = c.inverse-back.ensures in
    let none = not_listed _ _ _ _ c.self.invariant _ _ c.self.view_is c.args.from c.args.rel c.args.to c.requires.absent in
    ap (λ k. seen c.self.inside.model c.join.new.slots.slots c.self.inside.capacity (next_of k)) c.in_ok-join.ensures.next
    ∙ joined_net c.self.inside.model _ _ _ _ _ _ _ _ from.0 to.0 from.1 to.1 rel back c.self.invariant c.in_ok-join.ensures.ok (next_of c.self.inside.slots.vacant_key) none
    ∙ ap (λ n. linked n c.args.from c.args.rel c.args.to) c.self.view_is

pub returns-in_err-join-clause-err : goal.returns-in_err-join-clause-err
returns-in_err-join-clause-err c = on_err _ _ (ap (λ k. seen c.self.inside.model c.join.new.slots.slots c.self.inside.capacity (next_of k)) c.in_err-join.ensures.next ∙ (same_net _ _ c.in_err-join.ensures.err c.self.inside.model _ _ (next_of c.self.inside.slots.vacant_key) c.self.invariant ∙ c.self.view_is))

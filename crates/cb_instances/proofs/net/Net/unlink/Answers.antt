use Rattle.std.proofs.Common.{sym, subst, ◌∙◌, ap}
use Rattle.cb_model.specs.WellTyped.{IsRelation}
use Rattle.cb_instances.specs.Net.{Net, unlinked}
use Rattle.cb_instances.specs.Shown.{seen, next_of}
use Rattle.cb_instances.proofs.Linking.{parted_sound, parted_net}
use Rattle.cb_instances.proofs.Reading.{live_at}
use Rattle.cb_instances.proofs.net.Net.unlink.Goals as goal

pub inverse-back-requires : goal.inverse-back-requires
inverse-back-requires c = subst (λ (n : Net). IsRelation n.topology.model c.args.rel) (sym c.self.view_is) c.requires.rel

pub part-requires-clause-from : goal.part-requires-clause-from
part-requires-clause-from c = let from = live_at _ _ _ _ _ c.self.view_is c.args.from c.requires.from in (from.1.0, from.1.1)

pub part-requires-clause-to : goal.part-requires-clause-to
part-requires-clause-to c = let to = live_at _ _ _ _ _ c.self.view_is c.args.to c.requires.to in (to.1.0, to.1.1)

pub invariant_of-self : goal.invariant_of-self
invariant_of-self c =
    let from = live_at _ _ _ _ _ c.self.view_is c.args.from c.requires.from in
    let to = live_at _ _ _ _ _ c.self.view_is c.args.to c.requires.to in
    let rel = subst (λ (n : Net). IsRelation n.topology.model c.args.rel) (sym c.self.view_is) c.requires.rel in
    let back = c.inverse-back.ensures in
    parted_sound c.self.inside.model _ _ _ _ _ _ _ _ from.0 to.0 from.1 to.1 rel back c.self.invariant c.part.ensures.parts

pub returns : goal.returns
returns c =
    let from = live_at _ _ _ _ _ c.self.view_is c.args.from c.requires.from in
    let to = live_at _ _ _ _ _ c.self.view_is c.args.to c.requires.to in
    let rel = subst (λ (n : Net). IsRelation n.topology.model c.args.rel) (sym c.self.view_is) c.requires.rel in
    let back = c.inverse-back.ensures in
    ap (λ k. seen c.self.inside.model c.part.new.slots.slots c.self.inside.capacity (next_of k)) c.part.ensures.next
    ∙ parted_net c.self.inside.model _ _ _ _ _ _ _ _ from.0 to.0 from.1 to.1 rel back c.self.invariant c.part.ensures.parts (next_of c.self.inside.slots.vacant_key)
    ∙ ap (λ n. unlinked n c.args.from c.args.rel c.args.to) c.self.view_is

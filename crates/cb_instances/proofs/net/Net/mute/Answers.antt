use Rattle.std.proofs.Common.{◌∙◌, ap, arith}
use Rattle.std.specs.List.{Contains}
use Rattle.cb_instances.specs.Net.{muted}
use Rattle.cb_instances.specs.Shown.{seen, next_of}
use Rattle.cb_instances.proofs.Muting.{gained_sound, gained_net, class_has, muted_at, capacity_to_mute}
use Rattle.cb_instances.proofs.Reading.{live_at}
use Rattle.cb_instances.proofs.net.Net.mute.Goals as goal

pub mute-requires : goal.mute-requires
mute-requires c = λ x at.
    let has = class_has _ _ _ _ _ _ c.self.view_is c.args.id x at c.args.event c.self.invariant c.requires.event in
    let none : ¬ Contains x.muted.items c.args.event = λ in_x. c.requires.absent ((muted_at _ _ _ _ _ _ c.self.view_is c.args.id x at c.args.event c.self.invariant has).0 in_x) in
    let capacity = capacity_to_mute c.self.inside.model x (c.self.invariant.mutes c.args.id x at) c.args.event has none in
    omega (arith, x.muted.ok.0, capacity)

pub invariant_of-self : goal.invariant_of-self
invariant_of-self c =
    let x = (live_at _ _ _ _ _ c.self.view_is c.args.id c.requires.live).1 in
    let has = class_has _ _ _ _ _ _ c.self.view_is c.args.id x.0 x.1 c.args.event c.self.invariant c.requires.event in
    let here = muted_at _ _ _ _ _ _ c.self.view_is c.args.id x.0 x.1 c.args.event c.self.invariant has in
    gained_sound c.self.inside.model _ _ _ _ c.args.id x.0 x.1 c.args.event has c.mute.ensures.remutes c.self.invariant (λ in_x. c.requires.absent (here.0 in_x))

pub returns : goal.returns
returns c =
    let x = (live_at _ _ _ _ _ c.self.view_is c.args.id c.requires.live).1 in
    let has = class_has _ _ _ _ _ _ c.self.view_is c.args.id x.0 x.1 c.args.event c.self.invariant c.requires.event in
    let here = muted_at _ _ _ _ _ _ c.self.view_is c.args.id x.0 x.1 c.args.event c.self.invariant has in
    ap (λ k. seen c.self.inside.model c.mute.new.slots.slots c.self.inside.capacity (next_of k)) c.mute.ensures.next
    ∙ gained_net c.self.inside.model _ _ _ _ c.args.id x.0 x.1 c.args.event has c.mute.ensures.remutes c.self.invariant (next_of c.self.inside.slots.vacant_key) (λ in_x. c.requires.absent (here.0 in_x))
    ∙ ap (λ n. muted n c.args.id c.args.event) c.self.view_is

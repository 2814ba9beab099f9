use Rattle.std.proofs.Common.{◌∙◌, ap}
use Rattle.cb_instances.specs.Net.{unmuted}
use Rattle.cb_instances.specs.Shown.{seen, next_of}
use Rattle.cb_instances.proofs.Muting.{lost_sound, lost_net, class_has}
use Rattle.cb_instances.proofs.Reading.{live_at}
use Rattle.cb_instances.proofs.net.Net.unmute.Goals as goal

pub invariant_of-self : goal.invariant_of-self
invariant_of-self c =
    let x = (live_at _ _ _ _ _ c.self.view_is c.args.id c.requires.live).1 in
    let has = class_has _ _ _ _ _ _ c.self.view_is c.args.id x.0 x.1 c.args.event c.self.invariant c.requires.event in
    lost_sound c.self.inside.model _ _ _ _ c.args.id x.0 x.1 c.args.event has c.unmute.ensures.remutes c.self.invariant

pub returns : goal.returns
returns c =
    let x = (live_at _ _ _ _ _ c.self.view_is c.args.id c.requires.live).1 in
    let has = class_has _ _ _ _ _ _ c.self.view_is c.args.id x.0 x.1 c.args.event c.self.invariant c.requires.event in
    ap (λ k. seen c.self.inside.model c.unmute.new.slots.slots c.self.inside.capacity (next_of k)) c.unmute.ensures.next
    ∙ lost_net c.self.inside.model _ _ _ _ c.args.id x.0 x.1 c.args.event has c.unmute.ensures.remutes c.self.invariant (next_of c.self.inside.slots.vacant_key)
    ∙ ap (λ n. unmuted n c.args.id c.args.event) c.self.view_is

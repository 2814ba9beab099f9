use Rattle.std.proofs.Common.{◌↔◌, subst}
use Rattle.std.specs.Prelude.{IsTrue}
use Rattle.cb_instances.specs.Net.{Net, IsLiveInstance}
use Rattle.cb_instances.proofs.Reading.{seen_live}
use Rattle.cb_instances.proofs.net.Net.has_instance.Goals as goal

pub returns : goal.returns
returns c =
    let id = c.args.id in
    let live = seen_live c.self.inside.slots.slots id in
    subst (λ (n : Net). IsTrue c.contains.result ↔ IsLiveInstance n id) c.self.view_is
    (λ yes. live.0 (c.contains.ensures.0 yes), λ there. c.contains.ensures.1 (live.1 there))

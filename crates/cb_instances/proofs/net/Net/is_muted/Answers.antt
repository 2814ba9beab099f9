use Rattle.std.proofs.Common.{sym, subst}
use Rattle.std.specs.List.{Contains}
use Rattle.cb_instances.specs.Net.{Net, IsNamed}
use Rattle.cb_instances.proofs.Losing.{any_is, same_event, decides_event}
use Rattle.cb_instances.proofs.Muting.{class_has, muted_at}
use Rattle.cb_instances.proofs.Placing.{seen_at}
use Rattle.cb_instances.proofs.Reading.{occupied}
use Rattle.cb_instances.proofs.net.Net.is_muted.Goals as goal

pub index-requires : goal.index-requires
index-requires c =
    let named = subst (λ (n : Net). IsNamed n c.args.id c.requires.live.0) (sym c.self.view_is) c.requires.live.1 in
    occupied c.self.inside.slots.slots c.args.id c.requires.live.0 (seen_at c.self.inside.slots.slots c.args.id c.requires.live.0 named)

pub returns : goal.returns
returns c =
    let x = c.index.result.now in
    let at = c.index.ensures in
    let has = class_has _ _ _ _ _ _ c.self.view_is c.args.id x at c.args.event c.self.invariant c.requires.event in
    let any = any_is same_event decides_event c.deref.result.now c.args.event c.contains.result c.contains.ensures.cases in
    let here = muted_at _ _ _ _ _ _ c.self.view_is c.args.id x at c.args.event c.self.invariant has in (
      λ h. here.0 (subst (λ es. Contains es c.args.event) c.deref.ensures.value (any.0 h)),
      λ is. any.1 (subst (λ es. Contains es c.args.event) (sym c.deref.ensures.value) (here.1 is)),
    )

use Rattle.std.proofs.Common.{◌↔◌, sym, subst}
use Rattle.cb_model.specs.WellTyped.{IsRelation}
use Rattle.cb_instances.specs.Net.{Net, LinkAt}
use Rattle.cb_instances.proofs.Losing.{any_is, same_id, decides_id}
use Rattle.cb_instances.proofs.Reading.{listed_back}
use Rattle.cb_instances.proofs.net.Net.is_linked.Goals as goal

pub returns-then-there-back : goal.returns-then-there-back
returns-then-there-back c =
    let any = any_is same_id decides_id c.links-there.result.now c.args.to c.contains.result c.contains.ensures.cases in
    (λ h. (c.links-there.ensures.exactly c.args.to).0 (any.0 h), λ l. any.1 ((c.links-there.ensures.exactly c.args.to).1 l))

pub returns-else-there-back : goal.returns-else-there-back
returns-else-there-back c =
    let rel = subst (λ (n : Net). IsRelation n.topology.model c.args.rel) (sym c.self.view_is) c.requires.rel in
    let same : LinkAt c.args.self.now c.args.to c.inverse.result c.args.from ↔ LinkAt c.args.self.now c.args.from c.args.rel c.args.to = subst (λ (n : Net). LinkAt n c.args.to c.inverse.result c.args.from ↔ LinkAt n c.args.from c.args.rel c.args.to) c.self.view_is (listed_back _ _ _ _ c.self.invariant _ c.args.from c.args.rel c.inverse.result c.args.to rel c.inverse.ensures) in
    let any = any_is same_id decides_id c.links-back.result.now c.args.from c.contains-else-there-back.result c.contains-else-there-back.ensures.cases in (
      λ h. same.0 ((c.links-back.ensures.exactly c.args.from).0 (any.0 h)),
      λ l. any.1 ((c.links-back.ensures.exactly c.args.from).1 (same.1 l)),
    )

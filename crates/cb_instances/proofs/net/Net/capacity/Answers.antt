use Rattle.std.proofs.Common.{sym, subst}
use Rattle.cb_instances.specs.Net.{Net, IsNamed}
use Rattle.cb_instances.proofs.Placing.{seen_at}
use Rattle.cb_instances.proofs.net.Net.capacity.Goals as goal

pub returns-clause-above : goal.returns-clause-above
returns-clause-above c = λ id live.
    let named = subst (λ (n : Net). IsNamed n id live.0) (sym c.self.view_is) live.1 in
    let at = seen_at c.self.inside.slots.slots id live.0 named in
    c.self.invariant.below id at.0 at.1

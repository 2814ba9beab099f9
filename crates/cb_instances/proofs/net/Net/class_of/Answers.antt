use Rattle.std.proofs.Common.{sym, subst}
use Rattle.cb_network.specs.Topology.{HasClass}
use Rattle.cb_instances.specs.Net.{Net, IsNamed}
use Rattle.cb_instances.proofs.Placing.{seen_at}
use Rattle.cb_instances.proofs.Reading.{occupied, class_is}
use Rattle.cb_instances.proofs.net.Net.class_of.Goals as goal

pub index-requires : goal.index-requires
index-requires c =
    let named = subst (λ (n : Net). IsNamed n c.args.id c.requires.0) (sym c.self.view_is) c.requires.1 in
    occupied c.self.inside.slots.slots c.args.id c.requires.0 (seen_at c.self.inside.slots.slots c.args.id c.requires.0 named)

pub returns : goal.returns
returns c = λ name is.
    let named = subst (λ (n : Net). IsNamed n c.args.id name) (sym c.self.view_is) is in
    let x = c.index.result.now in
    subst (λ (n : Net). HasClass n.topology name x.class) c.self.view_is (class_is _ _ _ _ c.self.invariant c.args.id x name c.index.ensures (seen_at c.self.inside.slots.slots c.args.id name named))

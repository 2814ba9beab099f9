use Rattle.std.proofs.Common.{sym, subst}
use Rattle.cb_instances.specs.Net.{Net, IsNamed}
use Rattle.cb_instances.proofs.Placing.{at_seen, seen_at}
use Rattle.cb_instances.proofs.Reading.{occupied}
use Rattle.cb_instances.proofs.net.Net.name_of.Goals as goal

pub index-requires : goal.index-requires
index-requires c =
    let named = subst (λ (n : Net). IsNamed n c.args.id c.requires.0) (sym c.self.view_is) c.requires.1 in
    occupied c.self.inside.slots.slots c.args.id c.requires.0 (seen_at c.self.inside.slots.slots c.args.id c.requires.0 named)

pub returns : goal.returns
returns c =
    subst (λ (n : Net). IsNamed n c.args.id c.bytes.result.now) c.self.view_is (at_seen c.self.inside.slots.slots c.args.id c.bytes.result.now (c.index.result.now, c.index.ensures, sym c.bytes.ensures))

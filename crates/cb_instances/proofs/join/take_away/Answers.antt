use Rattle.std.proofs.Common.{sym, refl}
use Rattle.cb_instances.specs.Items.{Loses}
use Rattle.cb_instances.proofs.Rewiring.{rewired, rewired_none}
use Rattle.cb_instances.proofs.join.take_away.Goals as goal

pub returns-in-Some-clause-rewires : goal.returns-in-Some-clause-rewires
returns-in-Some-clause-rewires c = rewired c.args.slots.now.slots c.args.at c.args.rel (Loses c.args.to) c.in-Some.x.now _ (sym c.in-Some.ensures.value) refl c.remove.ensures.puts c.remove.ensures.loses

pub returns-in_default-clause-rewires : goal.returns-in_default-clause-rewires
returns-in_default-clause-rewires c = rewired_none c.args.slots.now.slots c.args.at c.args.rel (Loses c.args.to) (sym c.in_default.ensures.value)

use Rattle.std.proofs.Common.{sym, refl, subst}
use Rattle.cb_instances.specs.Items.{Gains}
use Rattle.cb_instances.specs.Rows.{Puts}
use Rattle.cb_instances.proofs.Rewiring.{rewired, rewired_none}
use Rattle.cb_instances.proofs.join.add.Goals as goal

pub add-requires : goal.add-requires
add-requires c = c.requires c.in-Some.x.now (sym c.in-Some.ensures.value)

pub returns-in-Some-clause-rewires : goal.returns-in-Some-clause-rewires
returns-in-Some-clause-rewires c =
    let old = c.in-Some.x.now.links.rows.items in
    let new = c.add.new.self.rows.items in
    rewired c.args.slots.now.slots c.args.at c.args.rel (Gains c.args.to) c.in-Some.x.now _ (sym c.in-Some.ensures.value) refl
    (subst (Puts old new c.args.rel) (sym c.add.ensures.this) c.add.ensures)
    c.add.ensures.this

pub returns-in_default-clause-rewires : goal.returns-in_default-clause-rewires
returns-in_default-clause-rewires c = rewired_none c.args.slots.now.slots c.args.at c.args.rel (Gains c.args.to) (sym c.in_default.ensures.value)

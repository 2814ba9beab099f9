use Rattle.std.proofs.Common.{sym}
use Rattle.cb_instances.specs.Items.{Gains}
use Rattle.cb_instances.proofs.Muting.{remuted, remuted_none}
use Rattle.cb_instances.proofs.mutes.mute.Goals as goal

pub push_reserved-requires : goal.push_reserved-requires
push_reserved-requires c = c.requires c.in-Some.x.now (sym c.in-Some.ensures.value)

pub returns-in-Some-clause-remutes : goal.returns-in-Some-clause-remutes
returns-in-Some-clause-remutes c = remuted c.args.slots.now.slots c.args.id (Gains c.args.event) c.in-Some.x.now c.push_reserved.new.self (sym c.in-Some.ensures.value) c.push_reserved.ensures.capacity c.push_reserved.ensures.items

pub returns-in_default-clause-remutes : goal.returns-in_default-clause-remutes
returns-in_default-clause-remutes c = remuted_none c.args.slots.now.slots c.args.id (Gains c.args.event) (sym c.in_default.ensures.value)

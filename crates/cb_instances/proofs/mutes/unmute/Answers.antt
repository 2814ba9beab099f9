use Rattle.std.proofs.Common.{sym}
use Rattle.cb_instances.specs.Items.{Loses}
use Rattle.cb_instances.proofs.Losing.{decides_event}
use Rattle.cb_instances.proofs.Muting.{remuted, remuted_none}
use Rattle.cb_instances.proofs.mutes.unmute.Goals as goal

pub take_out-requires : goal.take_out-requires
take_out-requires c = record { exact = decides_event }

pub returns-in-Some-clause-remutes : goal.returns-in-Some-clause-remutes
returns-in-Some-clause-remutes c = remuted c.args.slots.now.slots c.args.id (Loses c.args.event) c.in-Some.x.now c.take_out.new.list (sym c.in-Some.ensures.value) c.take_out.ensures.capacity c.take_out.ensures.loses

pub returns-in_default-clause-remutes : goal.returns-in_default-clause-remutes
returns-in_default-clause-remutes c = remuted_none c.args.slots.now.slots c.args.id (Loses c.args.event) (sym c.in_default.ensures.value)

use Rattle.std.proofs.Common.{subst}
use Rattle.cb_instances.specs.Net.{IsWholeNet}
use Rattle.cb_instances.specs.Shown.{next_of}
use Rattle.cb_instances.proofs.Reading.{whole}
use Rattle.cb_instances.proofs.net.Net.model.Goals as goal

pub returns-clause-whole : goal.returns-clause-whole
returns-clause-whole c = subst IsWholeNet c.self.view_is (whole _ _ _ _ c.self.invariant (next_of c.self.inside.slots.vacant_key))

use Rattle.std.proofs.Common.{sym, subst}
use Rattle.cb_network.specs.Topology.{IsLive as IsLiveName}
use Rattle.cb_instances.specs.declared.id.InstanceId.{InstanceId}
use Rattle.cb_instances.specs.Net.{Net, IsNamed, IsWholeNet}
use Rattle.cb_instances.specs.Shown.{next_of}
use Rattle.cb_instances.proofs.Placing.{at_seen}
use Rattle.cb_instances.proofs.Reading.{not_placed, whole}
use Rattle.cb_instances.proofs.net.Net.instance_named.Goals as goal

pub returns-in-Some-clause-found : goal.returns-in-Some-clause-found
returns-in-Some-clause-found c =
    let id : InstanceId = record { 0 = c.in-Some.place.now } in
    let at = c.self.invariant.indexed.live c.args.name.now id (sym c.in-Some.ensures.value) in
    subst (λ (n : Net). IsNamed n id c.args.name.now) c.self.view_is (at_seen c.self.inside.slots.slots id c.args.name.now at)

pub returns-in-Some-clause-whole : goal.returns-in-Some-clause-whole
returns-in-Some-clause-whole c = subst IsWholeNet c.self.view_is (whole _ _ _ _ c.self.invariant (next_of c.self.inside.slots.vacant_key))

pub returns-in-None-clause-absent : goal.returns-in-None-clause-absent
returns-in-None-clause-absent c =
    subst (λ (n : Net). ¬ IsLiveName n.topology c.args.name.now) c.self.view_is (not_placed _ _ _ _ c.self.invariant c.args.name.now (sym c.in-None.ensures.value))

pub returns-in-None-clause-whole : goal.returns-in-None-clause-whole
returns-in-None-clause-whole c = subst IsWholeNet c.self.view_is (whole _ _ _ _ c.self.invariant (next_of c.self.inside.slots.vacant_key))

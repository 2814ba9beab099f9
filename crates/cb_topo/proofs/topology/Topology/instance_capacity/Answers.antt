use Rattle.std.proofs.Common.{◌<◌, subst}
use Rattle.cb_instances.specs.declared.id.InstanceId.{InstanceId}
use Rattle.cb_instances.specs.Net.{IsLiveInstance}
use Rattle.cb_topo.specs.Numbered.{Numbered}
use Rattle.cb_topo.proofs.topology.Topology.instance_capacity.Goals as goal

pub returns-clause-above : goal.returns-clause-above
returns-clause-above c = subst (λ (n : Numbered). (id : InstanceId) → IsLiveInstance n.net id → id.0 < c.capacity.result) c.self.view_is c.capacity.ensures.above

use Rattle.std.proofs.Common.{◌↔◌, subst}
use Rattle.std.specs.List.{Contains}
use Rattle.cb_instances.specs.declared.id.InstanceId.{InstanceId}
use Rattle.cb_instances.specs.Net.{LinkAt}
use Rattle.cb_topo.specs.Numbered.{Numbered}
use Rattle.cb_topo.proofs.topology.Topology.links.Goals as goal

pub returns-clause-exactly : goal.returns-clause-exactly
returns-clause-exactly c = subst (λ (n : Numbered). (to : InstanceId) → Contains c.links.result.now to ↔ LinkAt n.net c.args.id c.args.rel to) c.self.view_is c.links.ensures.exactly

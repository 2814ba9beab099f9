use Rattle.std.proofs.Common.{sym, ◌∙◌, ap}
use Rattle.std.specs.FinMap as fin_map
use Rattle.cb_instances.specs.Net.{Net}
use Rattle.cb_instances.proofs.Counting.{counted}
use Rattle.cb_instances.proofs.Placing.{own_names}
use Rattle.cb_instances.proofs.net.Net.count.Goals as goal

pub returns : goal.returns
returns c =
    c.len.ensures ∙ (sym (counted c.self.inside.model c.self.inside.slots.slots (own_names _ _ c.self.invariant.indexed)) ∙ ap (λ (n : Net). fin_map.len n.topology.instances) c.self.view_is)

use Rattle.cb_topo.proofs.OneCapacity.{one_capacity}
use Rattle.cb_topo.proofs.laws.node_capacity_is_one.Goals as goal

pub returns : goal.returns
returns c n edit capacity other typed is is_other = one_capacity n typed edit capacity other is is_other

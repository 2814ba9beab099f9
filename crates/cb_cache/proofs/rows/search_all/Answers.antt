use Rattle.std.proofs.Common.{subst}
use Rattle.cb_topo.specs.Numbered.{Numbered}
use Rattle.cb_cache.specs.Prepared.{IsCapacityFor}
use Rattle.cb_cache.proofs.rows.search_all.Goals as goal

pub search_each-requires : goal.search_each-requires
search_each-requires g c = subst (λ (m : Numbered). IsCapacityFor m c.in_ok-store.store) c.topology.ensures c.in_ok-store.ensures

use Rattle.std.proofs.Common.{sym, subst}
use Rattle.cb_instances.specs.Net.{Net, empty_net}
use Rattle.cb_nodes.specs.Table.{Table}
use Rattle.cb_topo.specs.Kept.{IsTopologyOf}
use Rattle.cb_topo.proofs.Empty.{empty_kept}
use Rattle.cb_topo.proofs.topology.Topology.new.Goals as goal

pub invariant_of-result : goal.invariant_of-result
invariant_of-result c =
    let kept = empty_kept c.args.model c.tables-typed.ensures.typed c.none.result (c.none.ensures c.args.model) in
    record {
      topology = subst (λ (n : Net). IsTopologyOf n c.new-2.result c.none.result) (sym c.new.ensures)
          (subst (λ (t : Table). IsTopologyOf (empty_net c.args.model) t c.none.result) (sym c.new-2.ensures) kept);
      settled = tt;
    }

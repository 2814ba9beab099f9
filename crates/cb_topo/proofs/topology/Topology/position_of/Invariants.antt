use Rattle.std.proofs.Common.{◌≤◌, ◌-◌, length}
use Rattle.std.specs.List.{AllWithin}
use Rattle.cb_topo.specs.Settled.{IsBefore}
use Rattle.cb_topo.proofs.topology.Topology.position_of.Given as goal

abbrev pub invariant-loop-low : goal.invariant-loop-low
invariant-loop-low l = record {
  order : l.low ≤ l.high;
  within : l.high ≤ length l.order;
  below : AllWithin (λ other. IsBefore l.self other l.node) l.order 0 l.low;
  above : AllWithin (λ other. ¬ IsBefore l.self other l.node) l.order l.high (length l.order);
}

abbrev pub decreases-loop-low : goal.decreases-loop-low
decreases-loop-low l = l.high - l.low

use Rattle.std.proofs.Common.{◌≡◌, ◌+◌, ◌≤◌, length, take}
use Rattle.cb_cache.specs.Filled.{AddsRows, CostAtMost}
use Rattle.cb_cache.specs.Kept.{HaveCapacity}
use Rattle.cb_cache.proofs.fill.add_rows.Given as goal

abbrev pub invariant-loop-node : goal.invariant-loop-node
invariant-loop-node g l = record {
  same : l.graph ≡ l.initial.graph;
  capacity : HaveCapacity l.initial.graph l.rows;
  rows : AddsRows l.initial.graph (take l.node-index l.nodes) l.initial.rows.slots.items l.rows.slots.items l.initial.rows.pool l.rows.pool;
  spare : length l.nodes ≤ l.rows.pool.spare + l.node-index;
  cost : CostAtMost l.initial.graph (take l.node-index l.nodes) l.initial.steps l.steps;
}

use Rattle.std.proofs.Common.{◌≡◌}
use Rattle.cb_cache.specs.Kept.{ScratchFits}
use Rattle.cb_cache.proofs.Extending.{IsExtended}
use Rattle.cb_cache.proofs.link.extend_rows.Given as goal

abbrev pub invariant-loop-place : goal.invariant-loop-place
invariant-loop-place g l = record {
  same : l.graph ≡ l.initial.graph;
  capacity : ScratchFits l.initial.graph l.scratch;
  extended : IsExtended l.initial.graph l.touched l.slots l.initial.pool l.pool l.place l.initial.steps l.steps;
}
